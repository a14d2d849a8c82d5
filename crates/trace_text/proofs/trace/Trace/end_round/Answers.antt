use Rattle.trace_text.proofs.Names.{◌≡◌, ◌<◌, ◌-◌, length, set, rules, arith, ap, ◌∙◌, get_or_read, ended_at, with_last, ticks_ended, Lie, Traced, at_start, laid_of, rounds_laid}
use Rattle.trace_text.proofs.LaidLemmas.{and_tick, end_lies, last_end, last_lies, now_sound, rounds_are}
use Rattle.trace_text.proofs.trace.Trace.end_round.Goals as goal

-- the lists with the tick
lies : (c : goal.After-self-1) → Lie (record { beside = c.self.inside.beside.items; lines = c.self.inside.rows; ends = set c.self.inside.ends.items (c.len-last.result - 1) (record c.index_mut.result.now { after = c.args.tick }) })
    (with_last (ended_at c.args.tick) (rounds_laid (laid_of c.self.inside)))
lies c =
    let laid = laid_of c.self.inside in
    let some : 0 < length (rounds_laid laid) = grind (arith, c.requires.round, c.self.view_is) in
    let place : c.len-last.result ≡ length laid.ends = search rules in
    let last : c.index_mut.result.now ≡ last_end laid = get_or_read laid.ends _ c.index_mut.result.now (omega (arith, c.self.invariant.lie.as_many)) (rw place at c.index_mut.ensures.value) at_start in
    rw (last, place) (last_lies laid (and_tick laid c.args.tick) (ended_at c.args.tick) (rounds_laid laid) c.self.invariant.lie some (λ front round it. end_lies laid front round it c.args.tick))

pub invariant_of-self : goal.invariant_of-self
invariant_of-self c =
    now_sound _ _ c.self.invariant.few c.self.invariant.few_lines (lies c)
    (ticks_ended (rounds_laid (laid_of c.self.inside)) c.args.tick c.self.invariant.ticks (grind (arith, c.self.view_is, c.requires.later)) c.requires.small)

pub returns-clause-rounds : goal.returns-clause-rounds
returns-clause-rounds c = rounds_are _ _ (lies c) ∙ ap (λ (v : Traced). with_last (ended_at c.args.tick) v.rounds) c.self.view_is
