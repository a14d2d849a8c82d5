-- A merge of a trace's lines is a journal that fits.
use Rattle.trace_text.proofs.Names.{List, [], ◌∷◌, map, refl, sym, subst, ◌∙◌, arith, flat_map, append-nil, Turn, entries_of, Parts, IsValid, Loss, calls_of, IsMerge, RiseFrom, Round, last_tick, round_ticks, start, Fits, loses, AreRounds, keep_append, last_of_all, AreSmall}
use Rattle.trace_text.proofs.LineLemmas.{LossFits, TurnFits, loss_fits, turn_fits}
use Rattle.trace_text.proofs.PastLemmas.{Awaits, losses_taken, turns_taken}
use Rattle.trace_text.proofs.StandsLemmas.{same_replicate, stands_all}

module _ (config : Parts) (rounds : List Round) (turns : List Turn) (losses : List Loss) (valid : IsValid config)
    (fit : AreRounds config rounds) (small : AreSmall rounds turns) (merge : IsMerge config rounds turns losses) where
  -- none of a merge's lines has a fault: at the start of a journal all is awaited
  pub merge_fits : Fits config (record { turns = turns; losses = losses })
  merge_fits =
      let keep_up = keep_append 0 (flat_map round_ticks rounds) (last_tick rounds ∷ []) fit.ticks.keep_up (omega (arith, last_of_all rounds), tt) in
      let awaited : Awaits (entries_of turns) start [] turns = record {
        callers = refl;
        no_losses = refl;
        has_begun = λ some. absurd (omega arith);
        few = omega arith;
        calls_rise = λ caller. subst (λ least. RiseFrom least (calls_of caller (entries_of turns))) (sym (same_replicate 32 caller 0)) (merge.calls.in_order caller);
        ticks_keep_up = rw merge.ticks_are keep_up;
        are_all = refl;
        no_pair = refl;
      } in
      let its_turns = stands_all (TurnFits config) turns (turn_fits config rounds turns losses valid fit small merge) in
      let its_losses = stands_all (LossFits (entries_of turns)) losses (loss_fits config rounds turns losses valid fit small merge) in
      let taken = turns_taken config (entries_of turns) start turns (map loses losses) its_turns awaited (λ now behind.
      losses_taken config (entries_of turns) now 0 0 losses behind.no_pair (omega arith) (sym (append-nil _) ∙ behind.are_all)
      merge.calls.losses_in_order its_losses) in
      record { held = taken.0; faultless = taken.1 }
