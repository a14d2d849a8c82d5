-- Windows: items taken together for an interval. A list of items has its newest first, and so has a list of
-- windows.
-- The filters that use windows are those of the AUTOSAR SWS Intrusion Detection System Manager; where exactly
-- a window begins and ends is this project's own.
use Rattle.std.specs.Prelude.{ℕ, ◌+◌, ◌≤◌, nat_lt, Bool, List, [], ◌∷◌, ◌++◌, map, sum_by, AllPairs, if◌then◌else◌, ⊤}
use Rattle.std.specs.List.{AllByRecursion, list_any}

-- ticks do not fall, and the newest is at most this one
abbrev pub EndBy : {A : Type 0} → (A → ℕ) → ℕ → List A → Type 0
EndBy tick_of tick [] = ⊤
EndBy tick_of tick (x ∷ before) = (tick_of x ≤ tick) × EndBy tick_of (tick_of x) before

-- a window: the item that opened it, and those that came into it later
pub record Window (A : Type 0) : Type 0 where
  pub opener : A
  pub more : List A

-- the window that an item opens
abbrev pub opened : {A : Type 0} → A → Window A
opened x = record { opener = x; more = [] }

-- the window with one item more
abbrev pub extended : {A : Type 0} → A → Window A → Window A
extended x w = record { opener = w.opener; more = x ∷ w.more }

-- all items of a window
abbrev pub members : {A : Type 0} → Window A → List A
members w = w.more ++ w.opener ∷ []

-- the window covers a tick: up to, but not with, its opener's tick plus the interval
abbrev pub covers : {A : Type 0} → (A → ℕ) → ℕ → ℕ → Window A → Bool
covers tick_of interval tick w = nat_lt tick (tick_of w.opener + interval)

-- the newest window has one item more
abbrev pub in_newest : {A : Type 0} → A → List (Window A) → List (Window A)
in_newest x [] = []
in_newest x (w ∷ older) = extended x w ∷ older

-- an item comes: if no window covers its tick it opens one, and else it belongs to the newest
abbrev pub with_item : {A : Type 0} → (A → ℕ) → ℕ → A → List (Window A) → List (Window A)
with_item tick_of interval x windows =
    if list_any (covers tick_of interval (tick_of x)) windows then in_newest x windows else opened x ∷ windows

-- the windows of items
abbrev pub windows_of : {A : Type 0} → (A → ℕ) → ℕ → List A → List (Window A)
windows_of tick_of interval [] = []
windows_of tick_of interval (x ∷ before) = with_item tick_of interval x (windows_of tick_of interval before)

-- the sum of the counts in a window
abbrev pub sum_of : {A : Type 0} → (A → ℕ) → Window A → ℕ
sum_of count_of w = count_of w.opener + sum_by count_of w.more

-- ---- the openers alone

-- the openers of windows
abbrev pub openers : {A : Type 0} → List (Window A) → List A
openers windows = map (λ w. w.opener) windows

-- the item comes no earlier than the end of each of these openers' windows
abbrev pub IsBeyond : {A : Type 0} → (A → ℕ) → ℕ → A → List A → Type 0
IsBeyond tick_of interval x openers = AllByRecursion (λ opener. tick_of opener + interval ≤ tick_of x) openers

-- each opener comes no earlier than the end of each earlier one's window
abbrev pub AreApart : {A : Type 0} → (A → ℕ) → ℕ → List A → Type 0
AreApart tick_of interval openers = AllPairs (λ newer older. tick_of older + interval ≤ tick_of newer) openers
