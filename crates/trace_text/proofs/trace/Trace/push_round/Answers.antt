use Rattle.trace_text.proofs.Names.{◌≡◌, ◌++◌, ◌∷◌, [], length, List, rules, sym, ap, subst, ◌∙◌, KeepUpFrom, last_tick, ticks_pushed, begun_round, Round, Lie, Traced, laid_of, rounds_laid, with_round, RoundEnd}
use Rattle.trace_text.proofs.LaidLemmas.{last_end, now_sound, round_lies, rounds_are}
use Rattle.trace_text.proofs.trace.Trace.push_round.Goals as goal

-- the lists with the new round
lies : (c : goal.After-push_reserved) → Lie (record { beside = c.extend_from_slice.new.self.items; lines = c.self.inside.rows; ends = c.push_reserved.new.self.items })
    (rounds_laid (laid_of c.self.inside) ++ begun_round (length c.self.inside.rows) c.args.beside.now c.args.after ∷ [])
lies c =
    let laid = laid_of c.self.inside in
    let end : RoundEnd = record { beside = c.len.result; lines = c.last_of.result.now.lines; after = c.args.after } in
    let beside : c.extend_from_slice.new.self.items ≡ laid.beside ++ c.args.beside.now = search rules in
    let ends : c.push_reserved.new.self.items ≡ laid.ends ++ end ∷ [] = search rules in
    let last : c.last_of.result.now ≡ last_end laid = search rules in
    rw (beside, ends) (round_lies laid (rounds_laid laid) c.args.beside.now end c.self.invariant.lie (search rules) (ap (λ (e : RoundEnd). e.lines) last))

pub invariant_of-self-2 : goal.invariant_of-self-2
invariant_of-self-2 c =
    let keeps = subst (λ (v : Traced). KeepUpFrom (last_tick v.rounds) (c.args.beside.now ++ c.args.after ∷ [])) (sym c.self.view_is) c.requires.keeps_up in
    now_sound _ _ c.self.invariant.few c.self.invariant.few_lines (lies c) (ticks_pushed (rounds_laid (laid_of c.self.inside)) _ c.args.beside.now c.args.after c.self.invariant.ticks c.requires.small keeps)

pub returns-clause-ok : goal.returns-clause-ok
returns-clause-ok c =
    ap (λ (rs : List Round). record { callers = length c.self.inside.rows; rounds = rs }) (rounds_are _ _ (lies c)) ∙ ap (with_round c.args.beside.now c.args.after) c.self.view_is
