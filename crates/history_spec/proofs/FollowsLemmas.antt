-- What the calls of a caller asked of a class, and its entries.
use Rattle.history_spec.proofs.Names.{◌≡◌, ℕ, zero, suc, ◌+◌, ◌-◌, ◌<◌, ◌≤◌, ◌==◌, ◌&&◌, nat_le, if◌then◌else◌, inl, inr, cases_lt, KeptAsks, small_of, Option, Some, None, List, [], ◌∷◌, ◌++◌, length, refl, sym, ap, ◌∙◌, append_assoc, arith, append-nil, Kept, Missing, Act, Report, Entry, claim_of, claims_of, Misses, Fate, lost, accepted, start_of, end_of, FatesFrom, end_from, claims_got, Calls, Follows, CallAsks, lost_number, StandsIn, entries_from, ap₂, subst, some, some-injective, get_elem?, fate_within}
use Rattle.history_spec.proofs.FatesLemmas.{rises_apart, claims_got-append, got_stands}
use Rattle.history_spec.proofs.PlaceLemmas.{stands_left, stands_right}

module _ (sizes : List ℕ) (i : ℕ) where
  -- a call more
  pub follows_after : (calls : Calls) (asks : List Fate) (call : Option (Act (List ℕ))) (here : List Fate) → Follows sizes i calls asks
      → CallAsks sizes i call here → Follows sizes i (calls ++ call ∷ []) (asks ++ here)
  follows_after [] asks call here follows asked = (here, [], ap (λ xs. xs ++ here) follows ∙ sym (append-nil here), asked, refl)
  follows_after (first ∷ calls) asks call here (one, later, is, first_asked, follows) asked =
      let rest = follows_after calls later call here follows asked in
      (one, later ++ here, ap (λ xs. xs ++ here) is ∙ append_assoc one later here, first_asked, rest)

  -- ---- the claims that calls keep are what their log got

  lost_numbers : (first : ℕ) (numbers : List ℕ) → claims_got (lost_number first numbers i) ≡ []
  lost_numbers first [] = refl
  lost_numbers first (number ∷ numbers) = grind (arith, lost_numbers (suc first) numbers)

  -- a kept context got its claim, and asked each class once from the first that fits up to its own
  pub kept_asks : (first class claim : ℕ) (here : List Fate) → KeptAsks first i class claim here
      → ((if class == i then claim ∷ [] else []) ≡ claims_got here) × (length here ≡ (if nat_le first i && nat_le i class then 1 else 0))
  kept_asks first class claim here asked = elim (cases_lt i first) [
    | inl low ↦ let none = asked.no_other (inl low) in (grind (arith, asked.fits, none, low), grind (arith, none, low))
    | inr fit ↦ elim (cases_lt i class) [
      | inl less ↦ let vain = (asked.in_vain fit less).1 in (grind (arith, vain, less), grind (arith, vain, fit, less))
      | inr more ↦ (grind (arith, asked.got, asked.no_other, more), grind (arith, asked.got, asked.no_other, fit, more))
    ]
  ]

  call_got : (act : Act (List ℕ)) (here : List Fate) → CallAsks sizes i (Some act) here → claim_of i act ≡ claims_got here
  call_got (Report event count stamp (Kept class claim bytes)) here asked = (kept_asks (small_of sizes (length bytes)) class claim here asked).0
  call_got (Report event count stamp (Missing numbers)) here asked = rw asked (sym (lost_numbers (length sizes - length numbers) numbers))
  call_got act here asked = ap claims_got (sym asked)

  pub calls_got : (caller j : ℕ) (calls : Calls) (asks : List Fate) → Follows sizes i calls asks
      → claims_of i (entries_from caller j calls) ≡ claims_got asks
  calls_got caller j [] asks follows = ap claims_got (sym follows)
  calls_got caller j (None ∷ calls) asks (here, later, is, none, follows) = rw (is, none) (calls_got caller (suc j) calls later follows)
  calls_got caller j (Some act ∷ calls) asks (here, later, is, asked, follows) = rw (is, claims_got-append here later)
      (ap₂ ◌++◌ (call_got act here asked) (calls_got caller (suc j) calls later follows))

  -- ---- what entries show of the log

  -- the act shows a call on the ring of the class: the claim by which it keeps its context, or a number that it was lost at
  abbrev pub Shows : Act (List ℕ) → Fate → Type 0
  Shows act (accepted claim) = StandsIn (claim_of i act) claim
  Shows act (lost claimed) =
      (numbers : List ℕ) × (k : ℕ) × Misses act numbers × (get_elem? numbers k ≡ some claimed) × (i ≡ (length sizes - length numbers) + k)

  number_there : (first : ℕ) (numbers : List ℕ) (k claimed : ℕ) → get_elem? numbers k ≡ some claimed → i ≡ first + k
      → lost_number first numbers i ≡ lost claimed ∷ []
  number_there first [] k claimed at is = cc
  number_there first (number ∷ numbers) zero claimed at is = grind (arith, at)
  number_there first (number ∷ numbers) (suc k) claimed at is = grind (arith, number_there (suc first) numbers k claimed at)

  -- what an act shows is among what its call asked
  shown : (act : Act (List ℕ)) (fate : Fate) (here : List Fate) → CallAsks sizes i (Some act) here → Shows act fate → StandsIn here fate
  shown act (accepted claim) here asked shows = got_stands here claim (subst (λ xs. StandsIn xs claim) (call_got act here asked) shows)
  shown (Report event count stamp (Missing numbers)) (lost claimed) here asked (its, k, is, at, place) =
      rw (asked, is, number_there (length sizes - length its) its k claimed at place) (0, refl)
  shown act (lost claimed) here asked shows = absurd shows.2

  -- an entry is an accepted call
  pub call_was : (caller j : ℕ) (calls : Calls) (e : Entry (List ℕ)) → StandsIn (entries_from caller j calls) e
      → (k : ℕ) × (e.call ≡ j + k) × (get_elem? calls k ≡ some (Some e.act))
  call_was caller j [] e (place, at) = cc
  call_was caller j (None ∷ calls) e stands =
      let rest = call_was caller (suc j) calls e stands in (suc rest.0, omega (arith, rest.1), rest.2)
  call_was caller j (Some act ∷ calls) e (zero, at) = rw (← some-injective _ e at) (0, omega arith, refl)
  call_was caller j (Some act ∷ calls) e (suc place, at) =
      let rest = call_was caller (suc j) calls e (place, at) in (suc rest.0, omega (arith, rest.1), rest.2)

  -- what its act shows stands in the log
  pub log_shows : (k : ℕ) (calls : Calls) (asks : List Fate) (act : Act (List ℕ)) (fate : Fate) → Follows sizes i calls asks
      → get_elem? calls k ≡ some (Some act) → Shows act fate → StandsIn asks fate
  log_shows k [] asks act fate follows at shows = cc
  log_shows zero (call ∷ calls) asks act fate (here, later, is, asked, follows) at shows =
      rw is (stands_left here later fate (shown act fate here (rw (some-injective _ _ at) at asked) shows))
  log_shows (suc k) (call ∷ calls) asks act fate (here, later, is, asked, follows) at shows =
      rw is (stands_right here later fate (log_shows k calls later act fate follows at shows))

  -- and in the order of calls
  pub shown_in_order : (j k low : ℕ) (calls : Calls) (asks : List Fate) (act other : Act (List ℕ)) (fate next : Fate)
      → Follows sizes i calls asks → FatesFrom low asks → get_elem? calls j ≡ some (Some act) → get_elem? calls k ≡ some (Some other)
      → j < k → Shows act fate → Shows other next → end_of fate ≤ start_of next
  shown_in_order j k low [] asks act other fate next follows rises at there less shows more = cc
  shown_in_order j zero low (call ∷ calls) asks act other fate next follows rises at there less shows more = absurd (omega arith)
  shown_in_order zero (suc k) low (_ ∷ calls) _ act other fate next (here, later, is, asked, follows) rises at there less shows more =
      let parts = rises_apart low here later (rw is at rises) in
      let own = shown act fate here (rw (some-injective _ _ at) at asked) shows in
      let second = log_shows k calls later other next follows there more in
      omega (arith, (fate_within low here own.0 fate parts.0 own.1).1, (fate_within (end_from low here) later second.0 next parts.1 second.1).0)
  shown_in_order (suc j) (suc k) low (_ ∷ calls) _ act other fate next (here, later, is, asked, follows) rises at there less shows more =
      let parts = rises_apart low here later (rw is at rises) in
      shown_in_order j k (end_from low here) calls later act other fate next follows parts.1 at there (omega arith) shows more
