-- Two histories over one event buffer: caller 0 reports in the first round, caller 1 in the second. Both are merges, and
-- no run gives either. What is said of the rest after the first round's turn excludes them.
use Rattle.history_spec.proofs.Names.{ℕ, zero, suc, List, [], ◌∷◌, None, refl, arith, rules, Turn, Report, Entry, Fate, lost, accepted, AreDecided, AreMerged, all_losses, once_below, Rest, IsSettledAt, SeesAll, Absent}
use Rattle.history_spec.proofs.DecidedLemmas.{are_merged}
use Rattle.history_spec.proofs.WorkedMerge.{turn, all_decided}

-- the one call of a caller
abbrev report : ℕ → Entry (List ℕ)
report caller = record { caller = caller; call = 0; act = Report (record { 0 = 0 }) 1 None Absent }

-- the rest after the first round: one turn, and the call of caller 0
abbrev rest : Rest
rest = record { turns = 1; calls = λ caller. once_below caller 1 }

-- caller 1 is lost where nothing was given back, though the first turn took the one entry
abbrev left : List Turn
left = turn 10 0 0 (report 0 ∷ []) ∷ turn 20 1 0 [] ∷ turn 20 0 0 [] ∷ []

abbrev left_fates : List (List Fate)
left_fates = (accepted 0 ∷ []) ∷ (lost 1 ∷ []) ∷ []

left_decided : AreDecided 1 (λ caller. once_below caller 2) left left_fates
left_decided (suc zero) = search (rules, all_decided)
left_decided caller = search (rules, all_decided)

left_merged : AreMerged 1 (λ caller. once_below caller 2) left (all_losses 1 0 left_fates)
left_merged = are_merged 1 left (λ caller. once_below caller 2) left_fates left_decided

left_excluded : SeesAll left (all_losses 1 0 left_fates) rest → ⊥
left_excluded sees = omega (arith, sees (record { caller = 1; call = 0; given = 0 }) (0, refl) (omega arith))

-- the first turn leaves the report of caller 0, which was finished
abbrev right : List Turn
right = turn 10 0 0 [] ∷ turn 20 0 0 (report 0 ∷ []) ∷ turn 20 0 0 (report 1 ∷ []) ∷ []

abbrev right_fates : List (List Fate)
right_fates = (accepted 0 ∷ []) ∷ (accepted 1 ∷ []) ∷ []

right_decided : AreDecided 1 (λ caller. once_below caller 2) right right_fates
right_decided (suc zero) = search (rules, all_decided)
right_decided caller = search (rules, all_decided)

right_merged : AreMerged 1 (λ caller. once_below caller 2) right (all_losses 1 0 right_fates)
right_merged = are_merged 1 right (λ caller. once_below caller 2) right_fates right_decided

right_excluded : IsSettledAt 1 right (all_losses 1 0 right_fates) rest → ⊥
right_excluded settled = omega (arith, settled.each_once 0 0)
