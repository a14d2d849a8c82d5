-- What a turn adds to the desk, and to what it shows of a history.
use Rattle.main_function.proofs.Names.{◌≡◌, ℕ, ◌+◌, ◌≤◌, List, [], ◌∷◌, ◌++◌, length, map, arith, common_steps, flat_map-append, length-map, map-append, sum_by_push, entry_by, Entry, Turn, Parts, Buffer, DeskMemo, desk_memo, MakesTurn, Shared, IsManagerOf, Stands, Manager, ShowsHistory, held, item_of, items_of, sweeps_for, AreTotals, plain_item, Totals, end_steps, gave_of, only_reaps, nat_tests, map-map, eq-zero-or-pos, AreSumsOf}
use Rattle.history_spec.specs.Fronts.{and_front}
use Rattle.history_spec.proofs.FrontLemmas.{fronts_more}

-- what a turn adds to what the desk knows
pub record TurnAdds (positions : ℕ) (old : DeskMemo) (taken : List (Entry Buffer)) (turn : Turn) (new : DeskMemo) : Type 0 where
  pub notes_are : new.notes ≡ old.notes ++ items_of taken
  pub fronts_are : new.fronts ≡ and_front old.offered (length taken) old.fronts
  pub offered_is : new.offered ≡ old.offered + length taken
  pub swept0_is : new.swept0 ≡ old.swept0 ++ turn.head.lost_events ∷ []
  pub swept1_is : new.swept1 ≡ old.swept1 ++ turn.head.lost_contexts ∷ []
  pub made_is : new.made ≡ old.made
  pub back_is : new.back ≡ old.back
  pub released_is : new.released ≡ old.released
  pub few_moves : old.offered ≡ positions + length old.notes → length new.moves ≤ length old.moves + positions + old.made + 4

module _ (positions : ℕ) (old new : DeskMemo) (turn : Turn) (taken : List (Entry Buffer)) (makes : MakesTurn positions old taken turn new) where
  pub turn_adds : TurnAdds positions old taken turn new
  turn_adds =
      let swept = sweeps_for turn old in
      let only = only_reaps (items_of taken) swept in
      let steps = end_steps (items_of taken) swept makes.took makes.takes in
      let gave = gave_of old.made (length taken) makes.took new makes.gives in
      grind (arith, nat_tests, common_steps, only, steps, gave, makes.takes, makes.few, length-map taken item_of, eq-zero-or-pos (length taken))

  -- a desk that shows turns shows one turn more
  pub shows_more : (turns : List Turn) → old.offered ≡ positions + length old.notes → ShowsHistory positions old turns
      → ShowsHistory positions new (turns ++ turn ∷ [])
  shows_more turns offered shows =
      let adds = turn_adds in
      let items = map-append plain_item old.notes (items_of taken) in
      let more = flat_map-append (λ (t : Turn). t.entries) turns (turn ∷ []) in
      let count = length-map old.notes plain_item in
      let same : map plain_item (items_of taken) ≡ map (entry_by held) taken = map-map plain_item item_of taken in
      let entries = length-map taken (entry_by held) in
      let fronts = fronts_more positions turns turn (positions ∷ []) in
      let events = map-append (λ (t : Turn). t.head.lost_events) turns (turn ∷ []) in
      let contexts = map-append (λ (t : Turn). t.head.lost_contexts) turns (turn ∷ []) in
      grind (arith, common_steps, adds, makes.entries_are, same, items, more, shows, events, contexts, fronts, count, entries, offered)

  -- the totals of all turns with it
  pub totals_more : (before after : Totals) → AreTotals old before → after.entries ≡ before.entries + length taken
      → after.lost_events ≡ before.lost_events + turn.head.lost_events
      → after.lost_contexts ≡ before.lost_contexts + turn.head.lost_contexts → AreTotals new after
  totals_more before after are entries events contexts =
      let adds = turn_adds in
      let swept = sum_by_push (λ n. n) in
      grind (arith, common_steps, are, entries, events, contexts, adds, length-map taken item_of, swept)

  -- and what was offered
  pub offered_more : old.offered ≡ positions + length old.notes → new.offered ≡ positions + length new.notes
  offered_more offered = let adds = turn_adds in grind (arith, common_steps, offered, adds, length-map taken item_of)

-- so the totals of a manager are the sums over the turns that it stands for
pub sums_of : {C L : Type 0} {stands : C → Parts → List Turn → Type 0} {events : C → ℕ} {kept : C → List Buffer} {shared : Shared} {config : Parts}
    {turns : List Turn} {m : Manager C L} → IsManagerOf events kept shared m → Stands stands config m turns → AreSumsOf turns m.totals
sums_of {m = m} mine is = grind (arith, mine.totals_are, is.reports_show, length-map (desk_memo m.desk).notes plain_item)
