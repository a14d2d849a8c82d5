-- The moments of a history: what happens to the filter chain, one thing after another.
-- The order of work in a turn is this project's own (docs/DECISIONS.md).
use Rattle.std.specs.Prelude.{ℕ, List, [], ◌∷◌, ◌++◌, length, map, None}
use Rattle.std.specs.List.{range_with_len}
use Rattle.ids_types.specs.Turns.{Turn}
use Rattle.ids_types.specs.declared.entry.Act.{Act}
use Rattle.ids_types.specs.declared.entry.Act.TheVariants.{Report, State, SetMode}
use Rattle.ids_types.specs.declared.mode.Mode.{Mode}
use Rattle.ids_config.specs.Parts.{Parts, internal_of}
use Rattle.chain_spec.specs.Heads.{Head, heads_of}
use Rattle.chain_spec.specs.Items.{Item, kept_parcel}
use Rattle.chain_spec.specs.Stages.{with_all}

-- an event's aggregation window closes if it is due at this tick; an item comes; the state of the block
-- state filter, or an event's reporting mode, becomes another
pub data Moment : Type 0 where
  closes : (tick event : ℕ) → Moment
  comes : Item → Moment
  state_is : ℕ → Moment
  mode_is : (event : ℕ) → Mode → Moment

-- the moment of an internal event at a tick
abbrev pub head_moment : ℕ → Head → Moment
head_moment tick head = comes (record { event = head.event.0; tick = tick; count = head.count; stamp = None; context = None })

-- the moment of an act at a tick
abbrev pub act_moment : ℕ → Act (List ℕ) → Moment
act_moment tick (Report event count stamp context) =
    comes (record { event = event.0; tick = tick; count = count; stamp = stamp; context = kept_parcel context })
act_moment tick (State state) = state_is state
act_moment tick (SetMode event mode) = mode_is event.0 mode

-- the windows that are due at a tick close, event by event
abbrev pub closings : Parts → ℕ → List Moment
closings config tick = map (closes tick) (range_with_len 0 (length config.events))

-- the moments of a turn in their order: windows close, the internal events come, and then the entries
abbrev pub turn_moments : Parts → Turn → List Moment
turn_moments config turn =
    let tick = turn.head.tick in
    closings config tick
    ++ map (head_moment tick) (heads_of (internal_of config) turn.head)
    ++ map (λ entry. act_moment tick entry.act) turn.entries

-- the moments of turns, the newest first in both
abbrev pub moments : Parts → List Turn → List Moment
moments config [] = []
moments config (turn ∷ before) = with_all (moments config before) (turn_moments config turn)
