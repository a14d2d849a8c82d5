use Rattle.chain_plain.proofs.Names.{◌≡◌, [], ◌∷◌, ◌++◌, arith, last_of, common_steps, turn_with}
use Rattle.chain_plain.proofs.TellingLemmas.{tells_more}
use Rattle.chain_plain.proofs.folding.fold.Goals as goal

-- one turn more was taken
pub loop-head-preserved : goal.loop-head-preserved
loop-head-preserved g c =
    let config = c.args.config.now in
    let before = c.loop-head.invariant in
    let turn = turn_with c.in-Some.head c.in-Some.entries in
    let stood = c.in_ok-reserve.ensures.stands config before.0 before.1.stands in
    let left : c.loop-head.turns ≡ turn ∷ c.pop_front.new.self = grind (arith, common_steps) in
    let rises = rw left at before.1.ticks in
    let stands = c.take.ensures.stands config before.0 stood rises.0 in
    let sends = c.take.ensures.sends config before.0 stood rises.0 in
    let tells = tells_more (c.limited.ensures.value config (before.0 ++ turn ∷ []) stands) before.1.tells sends c.in_ok-add.ensures in
    (before.0 ++ turn ∷ [], grind (arith, common_steps, before.1, left, rises, stands, tells, c.take.ensures.kept, last_of before.0 turn))
