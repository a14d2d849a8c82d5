-- The history as contracts see it: its turns, each with its head and its entries.
use Rattle.std.specs.Prelude.{ℕ, ◌+◌, ◌-◌, ◌≤◌, max, List, [], ◌∷◌, ◌++◌, length, slice_index_or}
use Rattle.std.specs.List.{flat_map}
use Rattle.ids_types.specs.Names.{State, Entry, TurnHead}
use Rattle.ids_types.specs.Plain.{kept_bytes}

-- a turn of the main function, with the context of its entries as bytes
pub record Turn : Type 0 where
  pub head : TurnHead
  pub entries : List (Entry (List ℕ))

-- how much more a history can take without memory
pub record Room : Type 0 where
  pub turns : ℕ
  pub entries : ℕ
  pub bytes : ℕ

-- the turns of a history, and the room that it has left
pub record Turns : Type 0 where
  pub turns : List Turn
  pub room : Room

-- a turn that has begun
abbrev pub begun : TurnHead → Turn
begun head = record { head = head; entries = [] }

-- the turn with one entry more
abbrev pub extended : Turn → Entry (List ℕ) → Turn
extended turn entry = record { head = turn.head; entries = turn.entries ++ entry ∷ [] }

-- the turns, the last of them with one entry more
abbrev pub with_entry : List Turn → Entry (List ℕ) → List Turn
with_entry [] entry = []
with_entry (turn ∷ []) entry = extended turn entry ∷ []
with_entry (turn ∷ next ∷ turns) entry = turn ∷ with_entry (next ∷ turns) entry

-- turn k, from 0
abbrev pub turn_at : List Turn → ℕ → Turn
turn_at turns k = slice_index_or turns k (begun (record { tick = 0; lost_events = 0; lost_contexts = 0; limited = 0 }))

-- entry i of a turn, from 0
abbrev pub entry_at : Turn → ℕ → Entry (List ℕ)
entry_at turn i = slice_index_or turn.entries i (record { caller = 0; call = 0; act = State 0 })

-- the entries of turns, one after another
abbrev pub entries_of : List Turn → List (Entry (List ℕ))
entries_of turns = flat_map (λ turn. turn.entries) turns

-- the bytes of context that the entries of turns keep, one after another
abbrev pub context_bytes : List Turn → List ℕ
context_bytes turns = flat_map kept_bytes (entries_of turns)

-- there is room for so much more
pub record HasRoom (room : Room) (t e b : ℕ) : Type 0 where
  pub turns : t ≤ room.turns
  pub entries : e ≤ room.entries
  pub bytes : b ≤ room.bytes

-- what is left of the room after so much of it was taken
abbrev pub room_after : Room → ℕ → ℕ → ℕ → Room
room_after room turns entries bytes = record { turns = room.turns - turns; entries = room.entries - entries; bytes = room.bytes - bytes }

-- the room, and at least so much
abbrev pub wider_room : Room → ℕ → ℕ → ℕ → Room
wider_room room turns entries bytes = record { turns = max turns room.turns; entries = max entries room.entries; bytes = max bytes room.bytes }

-- what is emptied has no turns, and room for as much as it could hold
abbrev pub emptied : Turns → Turns
emptied history = record {
  turns = [];
  room = record {
    turns = history.room.turns + length history.turns;
    entries = history.room.entries + length (entries_of history.turns);
    bytes = history.room.bytes + length (context_bytes history.turns);
  };
}
