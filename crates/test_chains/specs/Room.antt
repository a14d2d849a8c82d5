-- Room for one more turn: the test, what it tells, and that it holds of smaller turns.
use Rattle.std.specs.Prelude.{◌≡◌, ℕ, ◌≤◌, ◌&&◌, Bool, true, nat_le}
use Rattle.std.specs.Cmp.Derive.{both_true}
use Rattle.std.proofs.lemmas.Bool.{and_parts, le-leb, leb-true}
use Rattle.std.proofs.Math.Nat.{le_trans}
use Rattle.ids_types.specs.Turns.{HasRoom, Room}

-- there is room for one more turn of so many entries and bytes
abbrev pub has_turn_room : Room → ℕ → ℕ → Bool
has_turn_room room entries bytes = nat_le 1 room.turns && nat_le entries room.entries && nat_le bytes room.bytes

-- where the test holds there is that room
pub has_room : (room : Room) (entries bytes : ℕ) → has_turn_room room entries bytes ≡ true → HasRoom room 1 entries bytes
has_room room entries bytes is =
    let both = and_parts (nat_le 1 room.turns && nat_le entries room.entries) (nat_le bytes room.bytes) is in
    let first = and_parts (nat_le 1 room.turns) (nat_le entries room.entries) both.0 in
    record {
      turns = leb-true 1 room.turns first.0;
      entries = leb-true entries room.entries first.1;
      bytes = leb-true bytes room.bytes both.1;
    }

-- where there is room for a turn, there is room for a smaller one
pub smaller_turn_room : (room : Room) (entries bytes fewer less : ℕ) → fewer ≤ entries → less ≤ bytes
    → has_turn_room room entries bytes ≡ true → has_turn_room room fewer less ≡ true
smaller_turn_room room entries bytes fewer less few small is =
    let has = has_room room entries bytes is in
    both_true (both_true (le-leb 1 room.turns has.turns) (le-leb fewer room.entries (le_trans few has.entries)))
    (le-leb less room.bytes (le_trans small has.bytes))
