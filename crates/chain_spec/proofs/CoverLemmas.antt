-- Windows: which item opens one, that each item lies in one, and which covers the tick of an item more, if ticks do not fall.
use Rattle.chain_spec.proofs.Names.{◌≡◌, ℕ, false, List, [], ◌∷◌, ◌↔◌, flat_map, refl, arith, list_any, All-from_recursion, AllPairs-cons, Window, EndBy, members, covers, windows_of, nat_tests, openers, IsBeyond, AreApart, ◌≤◌, Bool, filter, if◌then◌else◌, opened, extended, with_item}

-- ---- ticks that do not fall

-- items that end by a tick end by a later one
pub end_later : {A : Type 0} (tick_of : A → ℕ) (early late : ℕ) (xs : List A) → early ≤ late → EndBy tick_of early xs → EndBy tick_of late xs
end_later tick_of early late [] le by = tt
end_later tick_of early late (x ∷ xs) le by = (omega (arith, by.0), by.1)

-- items that pass a test end by a tick by which all end
pub end_of_some : {A : Type 0} (tick_of : A → ℕ) (test : A → Bool) (tick : ℕ) (xs : List A)
    → EndBy tick_of tick xs → EndBy tick_of tick (filter test xs)
end_of_some tick_of test tick [] by = tt
end_of_some tick_of test tick (x ∷ xs) by =
    grind (arith, by, end_of_some tick_of test (tick_of x) xs by.1, end_later tick_of (tick_of x) tick (filter test xs))

-- ---- windows

module _ {A : Type 0} (tick_of : A → ℕ) (interval : ℕ) where
  -- the items of the windows, one window after another, are all items
  pub members_of_windows : (xs : List A) → flat_map members (windows_of tick_of interval xs) ≡ xs
  members_of_windows [] = refl
  members_of_windows (x ∷ before) = grind (arith, members_of_windows before)

  -- an item is beyond all openers exactly if no window covers its tick
  pub beyond_all : (x : A) (ws : List (Window A)) → IsBeyond tick_of interval x (openers ws) ↔
      (list_any (covers tick_of interval (tick_of x)) ws ≡ false)
  beyond_all x [] = (λ beyond. refl, λ none. tt)
  beyond_all x (w ∷ ws) = grind (arith, nat_tests, beyond_all x ws)

  pub openers_apart : (xs : List A) → AreApart tick_of interval (openers (windows_of tick_of interval xs))
  openers_apart [] = λ i j d less within. absurd (omega arith)
  openers_apart (x ∷ before) =
      grind (arith, AllPairs-cons, All-from_recursion, beyond_all x (windows_of tick_of interval before), openers_apart before)

  -- ---- if ticks do not fall, the newest window alone decides

  -- the openers of items that end by a tick do
  pub windows_open_by : (tick : ℕ) (xs : List A) → EndBy tick_of tick xs → EndBy (λ w. tick_of w.opener) tick (windows_of tick_of interval xs)
  windows_open_by tick [] by = tt
  windows_open_by tick (x ∷ before) by = grind (arith, by, windows_open_by (tick_of x) before by.1)

  pub newest_decides : (tick now : ℕ) (w : Window A) (ws : List (Window A)) → EndBy (λ w. tick_of w.opener) tick (w ∷ ws)
      → list_any (covers tick_of interval now) (w ∷ ws) ≡ covers tick_of interval now w
  newest_decides tick now w [] by = grind arith
  newest_decides tick now w (v ∷ ws) by = grind (arith, nat_tests, by, newest_decides (tick_of w.opener) now v ws by.1)

  -- an item comes, and the newest window alone is asked
  abbrev pub with_newest : A → List (Window A) → List (Window A)
  with_newest x [] = opened x ∷ []
  with_newest x (w ∷ older) =
      if covers tick_of interval (tick_of x) w then extended x w ∷ older else opened x ∷ w ∷ older

  newest_alone : (x : A) (ws : List (Window A)) → EndBy (λ w. tick_of w.opener) (tick_of x) ws
      → with_item tick_of interval x ws ≡ with_newest x ws
  newest_alone x [] by = refl
  newest_alone x (w ∷ older) by = rw (newest_decides (tick_of x) (tick_of x) w older by) refl

  -- the windows with one more, after items that end by its tick
  pub windows_with : (x : A) (before : List A) → EndBy tick_of (tick_of x) before
      → windows_of tick_of interval (x ∷ before) ≡ with_newest x (windows_of tick_of interval before)
  windows_with x before by =
      newest_alone x (windows_of tick_of interval before) (windows_open_by (tick_of x) before by)

-- which items open a window, and which belong to one
pub ruleset window_laws = (beyond_all, openers_apart, members_of_windows)
