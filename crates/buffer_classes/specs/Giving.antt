-- How the buffers of one class are given back.
use Rattle.std.specs.Prelude.{◌≡◌, ◌+◌, ◌<◌, ◌≤◌, ◌⊎◌, ◌++◌}
use Rattle.buffer_classes.specs.Names.{ℕ, List, length, vec_capacity, some, get_elem?, Ring, ReapsToEnd, OffersAll, AreAllBack, IsSettled, AllAdmitted, Releases, IsKeeperOf, keeper_memo, seat_memo, vacant_of, filled_of, ring_positions, ring_seats, ring_terms, welcomes, Giver, ClassSeat, ClassTerms, KeeperMemo}
use Rattle.buffer_classes.specs.Buffers.{Buffer, IsBufferOf}

-- what the keeper of a class remembers
abbrev pub ClassMemo : Type 0
ClassMemo = KeeperMemo (Unit {0})

-- and so the giver
abbrev pub giver_memo : Giver → ClassMemo
giver_memo g = keeper_memo g.keeper

-- how many positions of the class were reaped and not filled
abbrev pub vacant_count : Giver → ℕ
vacant_count g = vacant_of g.keeper

-- and how many were filled and not offered
abbrev pub filled_count : Giver → ℕ
filled_count g = filled_of g.keeper

-- how many buffers wait for a vacant position
abbrev pub late_count : Giver → ℕ
late_count g = length g.late.items

-- all buffers that came back so far, with those that were there at first
abbrev pub in_all : Giver → ℕ
in_all g = (giver_memo g).offered + filled_count g + late_count g

-- the giver is one of the class of this ring
pub record IsGiverOf (ring : Ring _ Buffer (Unit {0}) ClassTerms (Unit {0})) (g : Giver) : Type 0 where
  pub is_keeper : IsKeeperOf IsBufferOf ring g.keeper
  pub number_is : g.number ≡ ring_positions ring
  pub late_are : AllAdmitted (IsBufferOf (ring_terms ring)) g.late.items
  pub few : late_count g ≤ g.number
  pub room : vec_capacity g.late ≡ g.number
  pub made_are : (giver_memo g).made ≡ length (giver_memo g).back
  pub seats_are : (giver_memo g).made ≡ ring_seats ring
  pub offered_from : g.number ≤ (giver_memo g).offered
  pub fronts_from : (j front : ℕ) → get_elem? (giver_memo g).fronts j ≡ some front → g.number ≤ front

-- a buffer is late only where no position is vacant
abbrev pub IsFilledUp : Giver → Type 0
IsFilledUp g = 0 < late_count g → vacant_count g ≡ 0

-- all that was finished is reaped, up to a ticket that was not: no more of them than the class has buffers
pub record ReapsAll (old new : Giver) : Type 0 where
  pub notes : List (Unit {0})
  pub run : ReapsToEnd notes (giver_memo old) (giver_memo new)
  pub few : length notes ≤ old.number
  -- no more was offered and not reaped before than the class has
  pub out_few : (giver_memo old).offered ≤ length (giver_memo old).notes + old.number
  pub settled : AreAllBack (giver_memo old) → IsSettled (giver_memo new)
  pub filled_is : filled_count new ≡ filled_count old
  pub late_is : new.late ≡ old.late
  pub number_is : new.number ≡ old.number

-- some late buffers are put into vacant positions, the last first
pub record FillsLate (old new : Giver) : Type 0 where
  pub memo_is : giver_memo new ≡ giver_memo old
  pub account : in_all new ≡ in_all old
  -- those that stay late are the first
  pub gone : List Buffer
  pub late_is : old.late.items ≡ new.late.items ++ gone
  pub number_is : new.number ≡ old.number

-- the class is reaped to its end, and then late buffers go first
abbrev pub Begins : Giver → Giver → Type 0
Begins old new = (mid : Giver) × ReapsAll old mid × FillsLate mid new × IsFilledUp new

-- so many more are offered, filled or late; or else the late list is full, and they are no more than that
abbrev pub Accounts : ℕ → Giver → Giver → Type 0
Accounts count old new = (in_all new ≡ in_all old + count) ⊎ ((new.number ≤ late_count new) × (in_all new ≤ in_all old + count))

-- so many buffers are put into vacant positions, or after the late ones
pub record Puts (count : ℕ) (old new : Giver) : Type 0 where
  pub memo_is : giver_memo new ≡ giver_memo old
  pub account : Accounts count old new
  pub more : List Buffer
  pub late_is : new.late.items ≡ old.late.items ++ more
  pub filled_up : IsFilledUp old → IsFilledUp new
  pub none_vacant : vacant_count old ≡ 0 → (vacant_count new ≡ 0) × (filled_count new ≡ filled_count old)
  pub number_is : new.number ≡ old.number

-- all that was filled is offered
pub record Offers (old new : Giver) : Type 0 where
  pub told : OffersAll (giver_memo old).made (filled_count old) (giver_memo old) (giver_memo new)
  pub none_filled : filled_count new ≡ 0
  pub vacant_is : vacant_count new ≡ vacant_count old
  pub late_is : new.late ≡ old.late
  pub number_is : new.number ≡ old.number

-- a seat of the class came back
pub record Takes (s : ClassSeat) (old new : Giver) : Type 0 where
  pub told : giver_memo new ≡ welcomes (seat_memo s) (giver_memo old)
  pub late_is : new.late ≡ old.late
  pub filled_is : filled_count new ≡ filled_count old
  pub vacant_is : vacant_count new ≡ vacant_count old
  pub number_is : new.number ≡ old.number

-- a seat of the class that was held goes on
pub record Frees (s : ClassSeat) (old new : Giver) : Type 0 where
  pub told : Releases (giver_memo old) (giver_memo new) (seat_memo s)
  pub late_is : new.late ≡ old.late
  pub filled_is : filled_count new ≡ filled_count old
  pub vacant_is : vacant_count new ≡ vacant_count old
  pub number_is : new.number ≡ old.number
