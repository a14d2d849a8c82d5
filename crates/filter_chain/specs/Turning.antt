-- The turn that a chain takes, and which turns it can take.
use Rattle.std.specs.Prelude.{ℕ, ◌+◌, ◌*◌, ◌<◌, ◌≤◌, ◌==◌, List, length, map, sum_by, IfSome, if◌then◌else◌, ⊤}
use Rattle.std.specs.List.{All}
use Rattle.ids_types.specs.{entry_by, kept_bytes, Turn}
use Rattle.ids_types.specs.declared.entry.Act.{Act}
use Rattle.ids_types.specs.declared.entry.Act.TheVariants.{Report, State, SetMode}
use Rattle.ids_types.specs.declared.entry.Entry.{Entry}
use Rattle.ids_types.specs.declared.entry.TurnHead.{TurnHead}
use Rattle.chain_spec.specs.Items.{kept_parcel}
use Rattle.filter_chain.specs.Parcels.{IsShort}

-- the turn of this head and these entries, over the parcels' bytes
abbrev pub turn_by : {B : Type 0} → (B → List ℕ) → TurnHead → List (Entry B) → Turn
turn_by held head items = record { head = head; entries = map (entry_by held) items }

-- how many bytes of context data entries keep
abbrev pub bytes_in : {B : Type 0} → (B → List ℕ) → List (Entry B) → ℕ
bytes_in held items = sum_by (λ entry. length (kept_bytes (entry_by held entry))) items

-- the act is one of these events, and its context data are short
abbrev pub FitsAct : {B : Type 0} → (B → List ℕ) → ℕ → Act B → Type 0
FitsAct held events (Report event count stamp context) = (event.0 < events) × IfSome (kept_parcel context) (IsShort held)
FitsAct held events (State state) = ⊤
FitsAct held events (SetMode event mode) = event.0 < events

-- there are at most 1,024 entries, and each has an act that fits
pub record FitsTurn {B : Type 0} (held : B → List ℕ) (events : ℕ) (items : List (Entry B)) : Type 0 where
  pub few : length items ≤ 1024
  pub acts : All (λ entry. FitsAct held events entry.act) items

-- how many bytes context data take in a message at most, where none have more bytes than the largest: they themselves,
-- and four for their number; none where the largest are none
abbrev pub context_room : ℕ → ℕ
context_room largest = if largest == 0 then 0 else 4 + largest

-- the parcel's take no more
abbrev pub FitsLargest : {B : Type 0} → (B → List ℕ) → ℕ → B → Type 0
FitsLargest held largest parcel = 4 + length (held parcel) ≤ context_room largest

-- how many bytes the messages of a turn have at most: 16 for each of so many entries and events and for three internal
-- events, and context data for each entry and event
abbrev pub most_sent : ℕ → ℕ → ℕ → ℕ
most_sent largest entries events = 16 * (entries + events + 3) + context_room largest * (entries + events)

-- how many bytes the context data of parcels take in messages at most
abbrev pub carried_room : {B : Type 0} → (B → List ℕ) → List B → ℕ
carried_room held parcels = sum_by (λ parcel. 4 + length (held parcel)) parcels
