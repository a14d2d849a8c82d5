-- The queue's rule: what was taken and what the queue holds are, of each feeder, all the pairs that it put.
use Rattle.std.specs.Prelude.{◌≡◌, ℕ, ◌+◌, ◌<◌, ◌≤◌, ◌==◌, ◌⊎◌, List, [], ◌∷◌, ◌++◌, length, map, filter, Option, Some, None}
use Rattle.std.specs.List.{range_with_len}
use mathlib.Core.Option.{some}
use lib.ListN.{get_elem?}
use Rattle.ids_reporter.specs.declared.rule.Taken.{Taken}
use Rattle.ids_reporter.specs.declared.rule.Known.{Known}
use Rattle.ids_reporter.specs.declared.rule.Known.TheVariants.{Nothing, Feeds, Drains}

-- the indexes of a feeder's pairs, in the order of the pairs
abbrev pub indexes : ℕ → List Taken → List ℕ
indexes s pairs = map (λ (pair : Taken). pair.index) (filter (λ (pair : Taken). pair.source == s) pairs)

-- the first numbers, from 0
abbrev pub upto : ℕ → List ℕ
upto n = range_with_len 0 n

-- each feeder's indexes are 0, 1, 2 and so on
abbrev pub AreInOrder : List Taken → Type 0
AreInOrder pairs = (s : ℕ) → indexes s pairs ≡ upto (length (indexes s pairs))

-- how many feeders the drain made
abbrev pub made_in : Known → ℕ
made_in (Drains made taken back) = made
made_in other = 0

-- what it took
abbrev pub taken_in : Known → List Taken
taken_in (Drains made taken back) = taken
taken_in other = []

-- the feeders that are back, each with how many pairs it put
abbrev pub back_in : Known → List (ℕ × ℕ)
back_in (Drains made taken back) = back
back_in other = []

-- it is the drain's
abbrev pub IsDraining : Known → Type 0
IsDraining (Drains made taken back) = Unit {0}
IsDraining other = ⊥

-- the feeder of this number is back, and put so many pairs
abbrev pub IsBack : ℕ → ℕ → List (ℕ × ℕ) → Type 0
IsBack s n [] = ⊥
IsBack s n (b ∷ back) = ((b.0 ≡ s) × (b.1 ≡ n)) ⊎ IsBack s n back

-- the drain knows that the feeder puts no more than so many pairs: it is back, or was never made
abbrev pub HasEnded : ℕ → ℕ → Known → Type 0
HasEnded s n v = IsBack s n (back_in v) ⊎ ((made_in v ≤ s) × (n ≡ 0))

-- what was taken has no pair too many of a feeder that has ended
abbrev pub AreWithin : Known → Type 0
AreWithin v = (s n : ℕ) → HasEnded s n v → length (indexes s (taken_in v)) ≤ n

-- the drain took another pair
abbrev pub with_taken : Taken → Known → Known
with_taken pair v = Drains (made_in v) (taken_in v ++ pair ∷ []) (back_in v)

-- the drain made the next feeder, which it knew to have put nothing
abbrev pub with_feeder : Known → Known
with_feeder v = Drains (made_in v + 1) (taken_in v) (back_in v)

abbrev pub new_feeder : Known → Known
new_feeder v = Feeds (made_in v) 0

-- how a feeder that comes back is remembered
abbrev pub returned : Known → List (ℕ × ℕ) → List (ℕ × ℕ)
returned (Feeds s n) back = (s, n) ∷ back
returned other back = back

-- the drain took a feeder back
abbrev pub with_back : Known → Known → Known
with_back v feeder = Drains (made_in v) (taken_in v) (returned feeder (back_in v))

-- a feeder's pass, which knows its number and how many pairs it put: it is the only one of its number.
-- The drain's pass, which is the only one: what it knows to have ended has no pass, and put just so many pairs
abbrev pub Fits : ℕ → (ℕ → Option ℕ) → (ℕ → ℕ) → List Taken → ℕ → Known → Type 0
Fits drain seat puts taken pass Nothing = Unit {0}
Fits drain seat puts taken pass (Feeds s n) = (seat s ≡ Some pass) × (puts s ≡ n)
Fits drain seat puts taken pass (Drains made took back) =
    (pass ≡ drain) × (took ≡ taken)
    × ((s n : ℕ) → HasEnded s n (Drains made took back) → (seat s ≡ None) × (puts s ≡ n))
    × ((s n : ℕ) → IsBack s n back → s < made)

-- of each feeder, what was taken and then what the queue holds has the pairs 0, 1, 2 and so on, as many as it put
pub record IsRelayed (items : List Taken) (views : List Known) : Type 0 where
  pub drain : ℕ
  pub seat : ℕ → Option ℕ
  pub puts : ℕ → ℕ
  pub taken : List Taken
  pub whole : (s : ℕ) → indexes s (taken ++ items) ≡ upto (puts s)
  pub fit : (pass : ℕ) (v : Known) → get_elem? views pass ≡ some v → Fits drain seat puts taken pass v

-- a feeder put this pair, its next
abbrev pub HasPut : Known → Taken → Known → Type 0
HasPut v pair w = w ≡ Feeds pair.source (pair.index + 1)

-- the drain took this pair: the feeder's next, and not one too many
pub record HasTaken (v : Known) (pair : Taken) (w : Known) : Type 0 where
  pub took : w ≡ with_taken pair v
  pub in_order : AreInOrder (taken_in v ++ pair ∷ [])
  pub one_left : (n : ℕ) → HasEnded pair.source n v → length (indexes pair.source (taken_in v)) < n
  pub within : AreWithin (with_taken pair v)

-- what was taken and what the queue holds are all that the feeders which have ended put
abbrev pub AddsUp : Known → List Taken → Type 0
AddsUp v items = (s n : ℕ) → HasEnded s n v → length (indexes s (taken_in v ++ items)) ≡ n
