-- Those who give the buffers of all classes back.
use Rattle.std.specs.Prelude.{◌≡◌, ◌+◌, ◌<◌, ◌≤◌, ◌==◌, ◌++◌}
use Rattle.buffer_classes.specs.Names.{Maybe, some, none, ℕ, List, count_by, length, Some, vec_capacity, get_elem?, ReapsToEnd, OffersAll, AreAllBack, IsSettled, AllAdmitted, first_back, Giver, Givers, Class, Classes, ClassSeat, SeatMemo, ClaimSeat}
use Rattle.buffer_classes.specs.Buffers.{Buffer}
use Rattle.buffer_classes.specs.Classes.{AreClasses}
use Rattle.buffer_classes.specs.Giving.{Accounts, ClassMemo, Frees, IsFilledUp, IsGiverOf, Takes, filled_count, giver_memo, late_count}
use Rattle.buffer_classes.specs.Seats.{IsHeldClaimant}

-- the giver of each class
abbrev pub givers_of : Givers → List Giver
givers_of givers = givers.givers.items

-- each class has its giver
pub record AreGiversOf (classes : Classes) (givers : Givers) : Type 0 where
  pub are : AreClasses classes
  pub all : length (givers_of givers) ≡ length classes.classes.items
  -- their list has the room of that of the classes, which never changes
  pub room : vec_capacity givers.givers ≡ vec_capacity classes.classes
  pub each : (i : ℕ) (class : Class) (g : Giver) → get_elem? classes.classes.items i ≡ some class
      → get_elem? (givers_of givers) i ≡ some g → IsGiverOf class.ring g

-- the buffer is of one of the classes of these sizes
abbrev pub IsBufferIn : List ℕ → Buffer → Type 0
IsBufferIn sizes b = get_elem? sizes b.class ≡ some b.size

-- and so is each of these
abbrev pub AreBuffersIn : List ℕ → List Buffer → Type 0
AreBuffersIn sizes bufs = AllAdmitted (IsBufferIn sizes) bufs

-- how many of the buffers are of class i
abbrev pub class_count : ℕ → List Buffer → ℕ
class_count i bufs = count_by (λ (b : Buffer). b.class == i) bufs

-- how many buffers are late where there is a giver
abbrev pub late_at : Maybe Giver → ℕ
late_at none = 0
late_at (some g) = late_count g

-- how many buffers of a class wait for a vacant position
abbrev pub late_of : Givers → ℕ → ℕ
late_of givers class = late_at (get_elem? (givers_of givers) class)

-- the late buffers went first into the positions that were then offered: where some are still late, none that came now is among these
pub record LateGoFirst (offered : ℕ) (old new : Giver) : Type 0 where
  pub kept : List Buffer
  pub gone : List Buffer
  pub more : List Buffer
  pub were : old.late.items ≡ kept ++ gone
  pub are : new.late.items ≡ kept ++ more
  pub first : 0 < length kept → offered ≡ filled_count old + length gone

-- what a class did with the buffers that came back: it was reaped to its end, and what was filled then is offered in one step
pub record GaveBack (bufs : List Buffer) (i : ℕ) (old new : Giver) : Type 0 where
  pub notes : List (Unit {0})
  pub reaped : ClassMemo
  pub run : ReapsToEnd notes (giver_memo old) reaped
  pub few : length notes ≤ old.number
  pub offered : ℕ
  pub told : OffersAll (giver_memo old).made offered reaped (giver_memo new)
  -- it reads a mark for each buffer that is reaped and one more, looks, and tries at most once for each other position and each seat
  pub steps : length (giver_memo new).moves ≤ length (giver_memo old).moves + old.number + (giver_memo old).made + 2
  pub settled : AreAllBack (giver_memo old) → IsSettled (giver_memo new)
  pub account : Accounts (class_count i bufs) old new
  pub late : LateGoFirst offered old new
  pub filled_up : IsFilledUp new
  pub none_filled : filled_count new ≡ 0
  pub back_is : (giver_memo new).back ≡ (giver_memo old).back
  pub released_is : (giver_memo new).released ≡ (giver_memo old).released
  pub number_is : new.number ≡ old.number

-- the claimant's seat of class i came back
abbrev pub Welcomed : ClaimSeat → ℕ → Giver → Giver → Type 0
Welcomed seat i old new = (s : ClassSeat) → get_elem? seat.seats.items i ≡ some s → Takes s old new

-- the claimant's seat of class i, which was held, goes on
abbrev pub Freed : ClaimSeat → ℕ → Giver → Giver → Type 0
Freed seat i old new = (s : ClassSeat) → get_elem? seat.seats.items i ≡ some s → Frees s old new

-- the claimant is held, and the first that the giver of each class releases
pub record IsNextClaimant (classes : Classes) (givers : List Giver) (seat : ClaimSeat) : Type 0 where
  pub memos : ℕ → SeatMemo
  pub held : IsHeldClaimant classes memos seat
  pub first : (i : ℕ) (g : Giver) → get_elem? givers i ≡ some g → first_back (giver_memo g).back ≡ Some (memos i)
