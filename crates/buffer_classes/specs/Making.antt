-- Classes that have just been made.
use Rattle.std.specs.Prelude.{◌≡◌, ◌<◌, ◌≤◌, ◌∷◌, ◌++◌}
use Rattle.buffer_classes.specs.Names.{ℕ, List, [], length, map, vec_capacity, some, get_elem?, AllAdmitted, AreNewSeats, IsUntouched, ring_terms, seat_memo, new_memo, Class, Classes, ClassSeat, Giver, Givers, ClaimSeat}
use Rattle.ids_types.specs.declared.class_spec.ClassSpec.{ClassSpec}
use Rattle.buffer_classes.specs.Buffers.{IsBufferOf}
use Rattle.buffer_classes.specs.Classes.{RiseFrom, class_sizes, class_terms}
use Rattle.buffer_classes.specs.Givers.{AreGiversOf, givers_of}
use Rattle.buffer_classes.specs.Giving.{IsGiverOf, filled_count, giver_memo, late_count, vacant_count}
use Rattle.buffer_classes.specs.Seats.{IsClaimSeatOf, claimant_of, claims_of, log_of}

-- the size and the number of a class are in range
pub record IsSpec (spec : ClassSpec) : Type 0 where
  pub size : spec.size ≤ 1024
  pub some_buffers : 1 ≤ spec.number
  pub few_buffers : spec.number ≤ 1024

-- the sizes of the classes, in order
abbrev pub spec_sizes : List ClassSpec → List ℕ
spec_sizes specs = map (λ (spec : ClassSpec). spec.size) specs

-- at most four classes of rising sizes
pub record AreSpecs (specs : List ClassSpec) : Type 0 where
  pub few : length specs ≤ 4
  pub rise : RiseFrom 0 (spec_sizes specs)
  pub each : AllAdmitted IsSpec specs

-- all buffers of a class are free, and no seat is back
pub record IsNewGiver (number seats : ℕ) (g : Giver) : Type 0 where
  pub untouched : IsUntouched number seats (giver_memo g)
  pub number_is : g.number ≡ number
  pub none_late : late_count g ≡ 0
  pub none_filled : filled_count g ≡ 0
  pub none_vacant : vacant_count g ≡ 0

-- the class of this place, its giver and its seats
pub record IsNewClass (place : ℕ) (spec : ClassSpec) (limit : ℕ) (class : Class) (g : Giver) (seats : List ClassSeat) : Type 0 where
  pub size_is : class.size ≡ spec.size
  pub terms_are : ring_terms class.ring ≡ class_terms place class.size
  pub is_giver : IsGiverOf class.ring g
  pub is_new : IsNewGiver spec.number limit g
  pub seats_are : AreNewSeats IsBufferOf class.ring limit seats

-- so many claimants by number, which have no seat yet, but room for so many
pub record AreUnseated (room made : ℕ) (seats : List ClaimSeat) : Type 0 where
  pub all_made : length seats ≡ made
  pub each : (i : ℕ) (seat : ClaimSeat) → get_elem? seats i ≡ some seat
      → (seat.seats.items ≡ []) × (vec_capacity seat.seats ≡ room) × (claimant_of seat ≡ i) × (claims_of seat ≡ 0)

-- there is room for one seat more
abbrev pub HasRoom : ClaimSeat → Type 0
HasRoom seat = length seat.seats.items < vec_capacity seat.seats

-- the claimant gets the seat of a class more
abbrev pub GetsOne : ClassSeat → ClaimSeat → ClaimSeat → Type 0
GetsOne s old new = (new.seats.items ≡ old.seats.items ++ s ∷ []) × (vec_capacity new.seats ≡ vec_capacity old.seats)
    × (new.number ≡ old.number) × (new.claims ≡ old.claims)

-- claimant i gets seat i
abbrev pub GetsSeat : List ClassSeat → ℕ → ClaimSeat → ClaimSeat → Type 0
GetsSeat seats i old new = (s : ClassSeat) → get_elem? seats i ≡ some s → GetsOne s old new

-- claimant i, which made no claim
pub record IsNewClaimant (classes : Classes) (i : ℕ) (seat : ClaimSeat) : Type 0 where
  pub is_claimant : IsClaimSeatOf classes seat
  pub number_is : claimant_of seat ≡ i
  pub no_claims : claims_of seat ≡ 0
  pub knows : (k : ℕ) (s : ClassSeat) → get_elem? seat.seats.items k ≡ some s → seat_memo s ≡ new_memo i
  pub no_logs : (k : ℕ) → log_of seat k ≡ []

-- all buffers of each class are free, and all claimants are made
pub record AreNewClasses (specs : List ClassSpec) (limit : ℕ) (classes : Classes) (givers : Givers) (seats : List ClaimSeat) : Type 0 where
  pub sizes_are : class_sizes classes ≡ spec_sizes specs
  pub givers_are : AreGiversOf classes givers
  pub each_giver : (i : ℕ) (spec : ClassSpec) (g : Giver) → get_elem? specs i ≡ some spec → get_elem? (givers_of givers) i ≡ some g
      → IsNewGiver spec.number limit g
  pub all_made : length seats ≡ limit
  pub each : (i : ℕ) (seat : ClaimSeat) → get_elem? seats i ≡ some seat → IsNewClaimant classes i seat
