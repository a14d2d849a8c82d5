use Rattle.std.proofs.Common.{◌+◌, rules, subst}
use Rattle.idsm_api.specs.{TurnTells}
use Rattle.first_journal.proofs.WritingLemmas.{front_is, goes_on}
use Rattle.first_journal.proofs.make_turns.Goals as goal

pub loop-turns-preserved : goal.loop-turns-preserved
loop-turns-preserved c =
    let now = c.turn-turn.new in
    let made = subst (λ answer. TurnTells (c.loop-turns.turns + 1) c.loop-turns.manager c.loop-turns.buffer answer c.turn-turn.result.quiet now.self now.buffer)
    c.in-Done.is c.turn-turn.ensures.told in
    let is = front_is c.turn-turn.result.answer now.self c.in-Done.is c.turn-turn.ensures.numbers made.written in
    goes_on c.loop-turns.invariant made c.turn-turn.ensures.fit c.in_ok-add.ensures (search (rules, is))
