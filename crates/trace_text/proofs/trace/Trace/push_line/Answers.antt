use Rattle.trace_text.proofs.Names.{◌≡◌, ◌^◌, ◌<◌, ◌+◌, ◌-◌, ◌++◌, ◌∷◌, [], length, set, get_or, List, rules, arith, ap, ap₂, length-append, length-set, ◌∙◌, slice_index, get_or_read, asked_more, with_last, Asked, Round, ticks_asked, line_asked, Lie, at_start, laid_of, rounds_laid, with_line, common_steps}
use Rattle.trace_text.proofs.LaidLemmas.{all_counted, and_line, last_end, last_lies, line_lies, now_sound, rounds_are}
use Rattle.trace_text.proofs.trace.Trace.push_line.Goals as goal

module _ (c : goal.After-self-1) where
  abbrev asked : Asked
  asked = line_asked c.args.line.now

  there : c.args.caller < length c.self.inside.rows
  there = grind (arith, c.requires.caller, c.self.view_is)

  place : c.len.result ≡ length c.self.inside.ends.items
  place = search rules

  counted : c.in_ok-more.more ≡ slice_index (last_end (laid_of c.self.inside)).lines c.args.caller + 1
  counted =
      let count : c.in_ok-more.more ≡ slice_index c.index.result.now.lines c.args.caller + 1 = search rules in
      let last : c.index.result.now ≡ last_end (laid_of c.self.inside) = get_or_read c.self.inside.ends.items _ c.index.result.now (omega (arith, c.self.invariant.lie.as_many)) (search (rules, c.index.ensures)) at_start in
      rw last at count

  pushed : c.push.new.self ≡ set c.self.inside.rows c.args.caller (get_or c.self.inside.rows c.args.caller [] ++ asked ∷ [])
  pushed = search rules

  -- the lists with the line
  lies : Lie (record { beside = c.self.inside.beside.items; lines = c.push.new.self; ends = set c.self.inside.ends.items (c.len.result - 1) (record c.index_mut.result.now { lines = set c.index_mut.result.now.lines c.args.caller c.in_ok-more.more }) })
      (with_last (asked_more c.args.caller asked) (rounds_laid (laid_of c.self.inside)))
  lies =
      let laid = laid_of c.self.inside in
      let last : c.index_mut.result.now ≡ last_end laid = get_or_read laid.ends _ c.index_mut.result.now (omega (arith, c.self.invariant.lie.as_many)) (rw place at c.index_mut.ensures.value) at_start in
      rw (pushed, last, place) (last_lies laid (and_line laid c.args.caller asked c.in_ok-more.more) (asked_more c.args.caller asked) (rounds_laid laid) c.self.invariant.lie (grind (arith, c.requires.round, c.self.view_is))
      (λ front round it. line_lies laid front round it c.args.caller asked c.in_ok-more.more there (omega (arith, there, c.self.invariant.few)) counted))

pub invariant_of-self-2 : goal.invariant_of-self-2
invariant_of-self-2 c =
    let fits : c.in_ok-more.more < 2 ^ 32 = search rules in
    let its = all_counted (laid_of c.self.inside) (rounds_laid (laid_of c.self.inside)) c.self.invariant.lie c.args.caller in
    now_sound _ _ (grind (arith, length-set, pushed c, c.self.invariant.few))
    (λ k. rw (pushed c) (grind (arith, common_steps, length-append, fits, its, counted c, there c, c.self.invariant.few_lines k))) (lies c)
    (ticks_asked (rounds_laid (laid_of c.self.inside)) c.args.caller (asked c) c.self.invariant.ticks)

pub returns-clause-ok : goal.returns-clause-ok
returns-clause-ok c = ap₂ (λ n (rs : List Round). record { callers = n; rounds = rs }) (grind (arith, length-set, pushed c)) (rounds_are _ _ (lies c)) ∙ ap (with_line c.args.caller (asked c)) c.self.view_is
