-- Where in a log the asks of a call stand, and what was asked by a rest.
use Rattle.history_spec.proofs.Names.{◌≡◌, ℕ, zero, suc, ◌+◌, ◌-◌, ◌<◌, ◌≤◌, nat_lt, Option, Some, List, [], ◌∷◌, ◌++◌, length, filter, map, take, drop, refl, sym, ap, ◌∙◌, inl, inr, arith, length-map, length-append, cases_eq, subst, Turn, entries_of, Parts, Act, Report, Kept, Missing, Entry, Fate, lost, fate_within, entries_by, entries_from, AreSettled, sizes_in, too_small, small_of, Calls, Follows, CallAsks, lost_number, StandsIn, flat_map-append, some, some-injective, get_elem?, ClassSpec, context_of, fitting_class, kept_class, ClassRest, ClassesRested, AskedBy, AskInOrder, entries_between, length-take-le, take-append-drop}
use Rattle.history_spec.proofs.ContextLemmas.{each_claim, its_call}
use Rattle.history_spec.proofs.FollowsLemmas.{kept_asks}
use Rattle.history_spec.proofs.PlaceLemmas.{stands_left, stands_right, stands_taken, at_right}
use Rattle.history_spec.proofs.RestLemmas.{in_parts}

-- the classes that are too small are those whose sizes are
small_in : (bytes : ℕ) (classes : List ClassSpec)
    → length (filter (λ (class : ClassSpec). nat_lt class.size bytes) classes) ≡ small_of (map (λ (class : ClassSpec). class.size) classes) bytes
small_in bytes [] = refl
small_in bytes (class ∷ classes) = grind (arith, small_in bytes classes)

pub small_is : (config : Parts) (bytes : ℕ) → too_small config bytes ≡ small_of (sizes_in config) bytes
small_is config bytes = small_in bytes config.classes

-- one ask that was lost
abbrev IsInVain : List Fate → Type 0
IsInVain asks = (claimed : ℕ) × (asks ≡ lost claimed ∷ [])

module _ (i : ℕ) where
  -- each class from the first on has one of the numbers
  number_of : (first : ℕ) (numbers : List ℕ) → first ≤ i → i < first + length numbers → IsInVain (lost_number first numbers i)
  number_of first [] low less = absurd (omega arith)
  number_of first (number ∷ numbers) low less = elim (cases_eq i first) [
    | inl is ↦ (number, grind (arith, is))
    | inr other ↦ let rest = number_of (suc first) numbers (omega arith) (omega arith) in (rest.0, grind (arith, other, rest.1))
  ]

  -- one kept its context only if it fits
  fits : (config : Parts) (act : Act (List ℕ)) (here : List Fate) → CallAsks (sizes_in config) i (Some act) here
      → fitting_class config (context_of act) ≤ kept_class config (context_of act)
  fits config (Report event count stamp (Kept class claim bytes)) here asked = omega (arith, asked.fits, small_is config (length bytes))
  fits config act here asked = omega arith

  pub call_fits : (config : Parts) (k : ℕ) (calls : Calls) (asks : List Fate) (act : Act (List ℕ)) → Follows (sizes_in config) i calls asks
      → get_elem? calls k ≡ some (Some act) → fitting_class config (context_of act) ≤ kept_class config (context_of act)
  call_fits config k [] asks act all at = cc
  call_fits config zero (call ∷ calls) asks act (here, later, is, asked, all) at = fits config act here (rw (some-injective _ _ at) at asked)
  call_fits config (suc k) (call ∷ calls) asks act (here, later, is, asked, all) at = call_fits config k calls later act all at

  -- the classes that fit, and are smaller than the one that kept it, were asked in vain
  pub in_vain : (config : Parts) (act : Act (List ℕ)) (here : List Fate) → CallAsks (sizes_in config) i (Some act) here
      → fitting_class config (context_of act) ≤ i → i < kept_class config (context_of act) → IsInVain here
  in_vain config (Report event count stamp (Kept class claim bytes)) here asked fits less = asked.in_vain (omega (arith, small_is config (length bytes))) less
  in_vain config (Report event count stamp (Missing numbers)) here asked fits less =
      let sizes = length-map config.classes (λ (class : ClassSpec). class.size) in
      rw asked (number_of (length (sizes_in config) - length numbers) numbers (omega arith) (omega arith))
  in_vain config act here asked fits less = absurd (omega arith)

  module _ (sizes : List ℕ) where
    -- how much a call asked is the same, whatever became of it
    as_much : (call : Option (Act (List ℕ))) (here other : List Fate) → CallAsks sizes i call here → CallAsks sizes i call other
        → length here ≡ length other
    as_much (Some (Report event count stamp (Kept class claim bytes))) here other asked again =
        let asks = λ (xs : List Fate). kept_asks sizes i (small_of sizes (length bytes)) class claim xs in
        (asks here asked).1 ∙ sym (asks other again).1
    as_much call here other asked again = ap length (asked ∙ sym again)

    -- an ask of call k stands in the log after the asks of the first m calls, and among those of the first n
    pub ask_between : (k m n : ℕ) (calls : Calls) (asks before after : List Fate) (call : Option (Act (List ℕ))) → Follows sizes i calls asks
        → Follows sizes i (take m calls) before → Follows sizes i (take n calls) after → get_elem? calls k ≡ some call → m ≤ k → k < n
        → ((here : List Fate) → CallAsks sizes i call here → IsInVain here)
        → (place : ℕ) × (claimed : ℕ) × (length before ≤ place) × (place < length after) × (get_elem? asks place ≡ some (lost claimed))
    ask_between k m n [] asks before after call all first second at low less vain = cc
    ask_between k m zero (_ ∷ calls) asks before after call all first second at low less vain = absurd (omega arith)
    ask_between zero (suc m) (suc n) (_ ∷ calls) asks before after call all first second at low less vain = absurd (omega arith)
    ask_between zero zero (suc n) (x ∷ calls) asks before after call (here, later, is, asked, all) first (mine, more, parts, again, second) at low less vain =
        let its = vain here (rw (some-injective _ _ at) at asked) in
        let same = as_much x here mine asked again in (
          0,
          its.0,
          omega (arith, ap length first),
          omega (arith, ap length parts, length-append mine more, same, ap length its.1),
          ap (λ xs. get_elem? xs 0) (is ∙ ap (λ xs. xs ++ later) its.1),
        )
    ask_between (suc k) zero (suc n) (x ∷ calls) asks before after call (here, later, is, asked, all) first (mine, more, parts, again, second) at low less vain =
        let rest = ask_between k 0 n calls later [] more call all refl second at (omega arith) (omega arith) vain in
        let same = as_much x here mine asked again in (
          length mine + rest.0,
          rest.1,
          omega (arith, ap length first),
          omega (arith, ap length parts, length-append mine more, rest.3),
          rw is (at_right here later rest.0 (length mine + rest.0) (lost rest.1) (omega (arith, same)) rest.4),
        )
    ask_between (suc k) (suc m) (suc n) (x ∷ calls) asks before after call (here, later, is, asked, all) (own, others, firsts, own_asked, first) (mine, more, parts, again, second) at low less vain =
        let rest = ask_between k m n calls later others more call all first second at (omega arith) (omega arith) vain in
        let same = as_much x here mine asked again in (
          length mine + rest.0,
          rest.1,
          omega (arith, ap length firsts, length-append own others, as_much x own mine own_asked again, rest.2),
          omega (arith, ap length parts, length-append mine more, rest.3),
          rw is (at_right here later rest.0 (length mine + rest.0) (lost rest.1) (omega (arith, same)) rest.4),
        )

-- an entry between two rests stands in the whole
pub stands_between : (turns : List Turn) (first second : ClassRest) → first.rest.turns ≤ second.rest.turns → (e : Entry (List ℕ))
    → StandsIn (entries_between turns first second) e → StandsIn (entries_of turns) e
stands_between turns first second le e stands =
    let by = take second.rest.turns turns in
    let early = subst (λ es. StandsIn es e) (sym (in_parts first.rest.turns second.rest.turns turns le))
    (stands_right (entries_of (take first.rest.turns turns)) (entries_between turns first second) e stands) in
    subst (λ es. StandsIn es e) (sym (flat_map-append _ by (drop second.rest.turns turns)) ∙ ap entries_of (take-append-drop second.rest.turns turns))
    (stands_left (entries_of by) (entries_of (drop second.rest.turns turns)) e early)

module _ (config : Parts) (turns : List Turn) (calls : ℕ → Calls) where
  -- what was settled by a rest is so, and a claim that was lost by then saw no more than the claims of the settled log
  pub asked_by_rest : (early_calls : ℕ → Calls) (log early : ℕ → ℕ → List Fate) (claimants : ℕ → List ℕ) (at : ClassRest)
      → AreSettled config (take at.rest.turns turns) early_calls early claimants → ((caller : ℕ) → early_calls caller ≡ take (at.rest.calls caller) (calls caller))
      → ((caller i : ℕ) → early caller i ≡ take (at.asks caller i) (log caller i)) → ((caller i : ℕ) → at.asks caller i ≤ length (log caller i))
      → ((caller i place claimed : ℕ) → get_elem? (log caller i) place ≡ some (lost claimed) → at.asks caller i ≤ place → at.offered i ≤ claimed)
      → ClassesRested turns log at × AskedBy config calls log at
  asked_by_rest early_calls log early claimants at settled first_calls firsts within later = (
    record {
      settled = λ caller i place claimed less there.
          let there_then = rw (← firsts caller i) at (stands_taken (at.asks caller i) (log caller i) (lost claimed) place there less) in
          let decided = (settled.settled caller i).decided in
          omega (
            arith,
            (fate_within 0 (early caller i) place (lost claimed) decided.rises there_then).1,
            decided.within,
            each_claim config (take at.rest.turns turns) early_calls early claimants settled i,
          );
      sees = λ caller i place claimed after there. later caller i place claimed there after;
    },
    record { asked = λ caller i. rw (← first_calls caller, ← firsts caller i) (settled.follows caller i); within = within },
  )

  -- the call of an entry between two rests stands in its caller's log
  pub ask_in_order : (log : ℕ → ℕ → List Fate) (first second : ClassRest) → ((caller : ℕ) → entries_by caller (entries_of turns) ≡ entries_from caller 0 (calls caller))
      → ((caller i : ℕ) → Follows (sizes_in config) i (calls caller) (log caller i)) → AskedBy config calls log first → AskedBy config calls log second
      → first.rest.turns ≤ second.rest.turns → ((e : Entry (List ℕ)) → StandsIn (entries_between turns first second) e
      → (first.rest.calls e.caller ≤ e.call) × (e.call < second.rest.calls e.caller)) → AskInOrder config turns log first second
  ask_in_order log first second are_entries follows before after le own =
      let here = λ (e : Entry (List ℕ)) (stands : StandsIn (entries_between turns first second) e).
      its_call turns calls are_entries e.caller e (stands_between turns first second le e stands) refl in
      record {
        turns_rise = le;
        fits = λ e stands. call_fits 0 config e.call (calls e.caller) (log e.caller 0) e.act (follows e.caller 0) (here e stands);
        in_vain = λ e i stands fits less.
            let caller = e.caller in
            let found = ask_between i (sizes_in config) e.call (first.rest.calls caller) (second.rest.calls caller) (calls caller) (log caller i)
            (take (first.asks caller i) (log caller i)) (take (second.asks caller i) (log caller i)) (Some e.act) (follows caller i)
            (before.asked caller i) (after.asked caller i) (here e stands) (own e stands).0 (own e stands).1
            (λ asks asked. in_vain i config e.act asks asked fits less) in (
              found.0,
              found.1,
              omega (arith, found.2, length-take-le (first.asks caller i) (log caller i) (before.within caller i)),
              omega (arith, found.3, length-take-le (second.asks caller i) (log caller i) (after.within caller i)),
              found.4,
            );
      }
