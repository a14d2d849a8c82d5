-- A turn is in range for a journal, and so are turns with one more.
use Rattle.main_function.proofs.Names.{◌≡◌, ◌<◌, ◌≤◌, ◌^◌, ℕ, List, [], ◌∷◌, ◌++◌, AllByRecursion, arith, at_length, length, length-map, map, recursion_from_All, refl, Act, AdmitsAct, AdmitsItem, AllAdmitted, Buffer, DeskMemo, Entry, Giver, IsManagerOf, Kept, Manager, Parts, Report, ReportTerms, Shared, Stands, Turn, Turned, act_by, entry_by, held, items_of, term_sizes, nat_tests, reverse_aux, newest_tick, true, list_all, IsValid, ClassSpec, last_of, Missing}
use Rattle.history_spec.specs.{KeepUpFrom}
use Rattle.journal.specs.Fitting.{AreInRange, IsTurnInRange}
use Rattle.main_function.proofs.ReportLemmas.{turn_adds}
use Rattle.main_function.proofs.StepLemmas.{within}
use Rattle.report_api.specs.Making.{IsOfConfig}
use Rattle.text_spec.proofs.TraceFacts.{all_append, all_split}
use Rattle.text_spec.specs.{IsHeld, enters, is_claim, is_in_ranges, turn_told}

claims : (numbers : List ℕ) → AllByRecursion (λ claimed. claimed ≤ 2 ^ 45) numbers → list_all is_claim numbers ≡ true
claims [] all = refl
claims (n ∷ numbers) all = grind (arith, nat_tests, all.0, claims numbers all.1)

module _ {config : Parts} {terms : ReportTerms} (valid : IsValid config) (of : IsOfConfig config terms) {most : ℕ}
    (within : AllAdmitted (λ size. size ≤ most) (term_sizes terms)) (short : most ≤ 1024) where
  -- what is admitted is in range
  act_in_range : (caller call : ℕ) (act : Act) → caller < 32 → call < 2 ^ 40 → AdmitsAct terms act
      → is_in_ranges config (enters (record { caller = caller; call = call; act = act_by held act })) ≡ true
  act_in_range caller call (Report event count stamp (Kept class claim buf)) below before is =
      let size = is.1.size_is in
      let few : length (term_sizes terms) ≤ 4 = rw (of.sizes, length-map config.classes (λ (spec : ClassSpec). spec.size)) valid.few_classes in
      grind (arith, nat_tests, below, before, is, of.sensors event.0, at_length (term_sizes terms) class buf.size size, few, within class buf.size size, short)
  act_in_range caller call (Report event count stamp (Missing numbers)) below before is =
      grind (arith, nat_tests, below, before, is, of.sensors event.0, claims numbers (recursion_from_All _ numbers is.1.few_claims))
  act_in_range caller call (Report event count stamp context) below before is = grind (arith, nat_tests, below, before, is, of.sensors event.0)
  act_in_range caller call act below before is = grind (arith, nat_tests, below, before, is, of.events)

  entries_in_range : (taken : List (Entry Buffer)) → AllByRecursion (AdmitsItem terms) (items_of taken)
      → AllByRecursion (λ line. is_in_ranges config line ≡ true) (map enters (map (entry_by held) taken))
  entries_in_range [] all = tt
  entries_in_range (e ∷ taken) all = (act_in_range e.caller e.call e.act all.0.caller all.0.call all.0.act, entries_in_range taken all.1)

ticks_more : (before turns : List Turn) (turn : Turn) → KeepUpFrom (newest_tick before) (map (λ (t : Turn). t.head.tick) turns)
    → newest_tick (reverse_aux turns before) ≤ turn.head.tick → KeepUpFrom (newest_tick before) (map (λ (t : Turn). t.head.tick) (turns ++ turn ∷ []))
ticks_more before [] turn keeps later = (later, tt)
ticks_more before (one ∷ turns) turn keeps later = (keeps.0, ticks_more (one ∷ before) turns turn keeps.1 later)

module _ {C L : Type 0} {stands : C → Parts → List Turn → Type 0} {noted : L → Turn → L → Type 0} {kept : C → List Buffer} {tick : ℕ} {desk : DeskMemo}
    {givers : List Giver} {old new : Manager C L} {config : Parts} (turned : Turned stands noted kept tick desk givers old new) where
  pub turn_in_range : {events : C → ℕ} {shared : Shared} → IsValid config → IsOfConfig config shared.terms → IsManagerOf events kept shared old
      → IsManagerOf events kept shared new → AllByRecursion IsHeld (turn_told turned.turn) → IsTurnInRange config turned.turn
  turn_in_range {shared = shared} valid of was is can =
      let notes = (turn_adds _ _ _ _ _ turned.makes).notes_are in
      let all : AllByRecursion (AdmitsItem shared.terms) (desk.notes ++ items_of turned.taken) = rw (← notes) (recursion_from_All _ _ is.admitted) in
      record {
        held = can;
        ranges = (
          grind (arith, nat_tests, turned.small, turned.head_is, is.tick_within),
          rw turned.makes.entries_are (entries_in_range valid of (within was) was.roomy.short turned.taken (all_split (AdmitsItem shared.terms) desk.notes (items_of turned.taken) all).1),
        );
        few = rw (turned.makes.entries_are, length-map) (omega (arith, turned.makes.few, was.roomy.few_positions));
      }

  pub one_more_in_range : (turns : List Turn) → Stands stands config old turns → last_of old ≤ tick → AreInRange config turns → IsTurnInRange config turned.turn
      → AreInRange config (turns ++ turned.turn ∷ [])
  one_more_in_range turns is later are own = record {
    each = all_append (IsTurnInRange config) turns (turned.turn ∷ []) are.each (own, tt);
    ticks = ticks_more [] turns turned.turn are.ticks (omega (arith, is.tick_is, later, turned.tick_is));
  }
