-- Events in the order in which they were last stored: which are among the first, and the others without one.
use Rattle.event_memory.proofs.Names.{and_parts, cases_Bool, list_any, ◌≡◌, ◌==◌, ◌&&◌, ℕ, zero, suc, Bool, true, false, not, nat_le, nat_lt, List, [], ◌∷◌, length, take, filter, refl, sym, ap, subst, arith, inl, inr, eqb-true, eq-eqb, Stored, event_of, events_of, has_event, renews, since, remove_key, take-nil, common_steps}
use Rattle.std.proofs.lemmas.Bool.Decides.{nat_tests}
use Rattle.std.proofs.lemmas.Map.Views.{any-filter_same}
use Rattle.event_memory.proofs.FirstLemmas.{filter-swap, filter-twice, until, kept_so}

-- the event is this one, and it is another one
abbrev pub is : ℕ → ℕ → Bool
is event other = other == event

abbrev pub is_not : ℕ → ℕ → Bool
is_not event other = not (event == other)

-- e is no event that is left out where f is left out
apart : (e f : ℕ) → (f == e) ≡ false → (x : ℕ) → is e x ≡ true → is_not f x ≡ true
apart e f differs x here = grind (arith, nat_tests)

-- ---- events of items

-- the events since an event was stored are those before it; it is one of the events exactly where one of the items is of
-- it; and it does not stand there twice
pub events_once : (event : ℕ) (items : List Stored) → (until (is event) (events_of items) ≡ events_of (since event items))
    × (list_any (is event) (events_of items) ≡ has_event event items)
    × (remove_key (is event) (events_of items) ≡ filter (is_not event) (events_of items))
events_once event [] = (refl, refl, refl)
events_once event (item ∷ before) =
    let f = event_of item in
    let xs = events_of before in
    let rest = events_once event before in
    let others = filter (is_not f) xs in
    elim (cases_Bool (f == event)) [
      | inl same ↦
          let here : f ≡ event = eqb-true f event same in
          rw (same, eq-eqb event f (sym here))
          (refl, refl, subst (λ e. others ≡ filter (is_not e) others) here (sym (filter-twice (is_not f) xs)))
      | inr differs ↦
          let among = apart event f differs in
          let kept = kept_so (is event) (is_not f) among xs in
          let other : (event == f) ≡ false = grind (arith, nat_tests) in
          rw (differs, other, ← rest.0, ← rest.1) (
            ap (λ ys. f ∷ ys) kept.0,
            any-filter_same (is event) (is_not f) true among xs,
            cc (kept.1, rest.2, filter-swap (is_not f) (is_not event) xs),
          )
    ]

-- ---- among the newest

-- an event is among the first where few stand before it
any-take : (event k : ℕ) (xs : List ℕ)
    → list_any (is event) (take k xs) ≡ (list_any (is event) xs && nat_lt (length (until (is event) xs)) k)
any-take event k [] = simp take-nil
any-take event zero (x ∷ xs) = grind arith
any-take event (suc k) (x ∷ xs) = grind (arith, nat_tests, any-take event k xs)

-- what is among the first is among all
pub any-of-take : (event k : ℕ) (items : List Stored)
    → list_any (is event) (take k (events_of items)) ≡ true → has_event event items ≡ true
any-of-take event k items among = grind (arith, common_steps, any-take, events_once, and_parts)

le-not-lt : (k n : ℕ) → nat_le k n ≡ not (nat_lt n k)
le-not-lt k n = grind (arith, nat_tests)

-- an item renews its event exactly where the event is not among the newest
pub renews-newest : (k : ℕ) (item : Stored) (items : List Stored)
    → renews k item items ≡ not (list_any (is (event_of item)) (take k (events_of items)))
renews-newest k item items = grind (arith, common_steps, any-take, events_once, le-not-lt)
