-- How many bytes the messages of a turn have at most: by the parcels that came with it and those that are kept. The chain's
-- laws stand on it, so that their proofs are here.
use Rattle.std.proofs.Common.{arith, ℕ, ◌+◌, ◌*◌, ◌≤◌, List, [], ◌∷◌, length}
use Rattle.std.proofs.lemmas.Grind.{common_steps}
use Rattle.event_chain.specs.Names.{All, Entry, all_kept, Slot, all_parcels, carried_room}
use Rattle.filter_chain.specs.{IsShort, FitsLargest, FitsTurn, most_sent}
use Rattle.filter_chain.proofs.RoomLemmas.{carried_within, parcels_short, short_fit}

-- 16 for each entry and event and for three internal events, and what the context data of the parcels take
abbrev pub HasTurnRoom : {B : Type 0} → (B → List ℕ) → List (Entry B) → List (Slot B) → ℕ → Type 0
HasTurnRoom held items slots sent =
    16 * (length items + length slots + 3) + (carried_room held (all_parcels items) + carried_room held (all_kept slots)) ≤ sent

-- an event's window keeps one parcel at most
pub kept_few : {B : Type 0} (slots : List (Slot B)) → length (all_kept slots) ≤ length slots
kept_few [] = omega arith
kept_few (slot ∷ slots) = let rest = kept_few slots in grind (arith, common_steps, rest)

-- an entry keeps one parcel at most
pub parcels_few : {B : Type 0} (items : List (Entry B)) → length (all_parcels items) ≤ length items
parcels_few [] = omega arith
parcels_few (entry ∷ items) = let rest = parcels_few items in grind (arith, common_steps, rest)

module _ {B : Type 0} (held : B → List ℕ) (items : List (Entry B)) (slots : List (Slot B)) where
  -- where no parcel is larger than the largest, there is room for each
  pub within_turn : (largest sent : ℕ) → All (FitsLargest held largest) (all_parcels items) → All (FitsLargest held largest) (all_kept slots)
      → most_sent largest (length items) (length slots) ≤ sent → HasTurnRoom held items slots sent
  within_turn largest sent came kept room =
      carried_within held largest (length items) (length slots) sent (all_parcels items) (all_kept slots) came kept
      (parcels_few items) (kept_few slots) room

  -- and where all are short
  pub bounded_turn : (sent : ℕ) → FitsTurn held (length slots) items → All (IsShort held) (all_kept slots)
      → most_sent 1024 (length items) (length slots) ≤ sent → HasTurnRoom held items slots sent
  bounded_turn sent fits short room =
      within_turn 1024 sent (short_fit held (all_parcels items) (parcels_short held (length slots) items fits))
      (short_fit held (all_kept slots) short) room
