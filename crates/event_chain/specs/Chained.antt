-- What contracts see of an `EventChain`, and what holds of its fields.
use Rattle.std.specs.Prelude.{◌≡◌, ℕ, ◌<◌, ◌≤◌, List, length, map, Option, IfSome}
use Rattle.event_chain.specs.declared.event_chain.EventChain.TheInside.{Inside}
use Rattle.event_chain.specs.declared.way.Way.{Way}
use Rattle.event_chain.specs.declared.witness.Unwatched.{Unwatched}
use Rattle.event_chain.specs.Names.{Internal, EventIndex, Slot, all_kept}
use Rattle.event_chain.specs.Ready.{HasPlaces, aggregating_in}

-- the way of items, and the internal events
pub record Watched (B W : Type 0) : Type 0 where
  pub way : Way B W
  pub internal : Internal

-- what the fields hold
abbrev pub chained : {B W : Type 0} → Inside B W → Watched B W
chained c = record { way = c.way; internal = c.internal }

-- those of a chain that nobody watches
abbrev pub Chained : Type 0 → Type 0
Chained B = Watched B Unwatched

-- its windows, one for each event
abbrev pub windows_in : {B W : Type 0} → Watched B W → List (Slot B)
windows_in chain = chain.way.windows

-- how many events it has
abbrev pub chain_events : {B W : Type 0} → Watched B W → ℕ
chain_events chain = length (windows_in chain)

-- the parcels that it keeps
abbrev pub chain_kept : {B W : Type 0} → Watched B W → List B
chain_kept chain = all_kept (windows_in chain)

-- the event is one of so many, where it is given
abbrev pub IsOneOf : ℕ → Option EventIndex → Type 0
IsOneOf events event = IfSome event (λ index. index.0 < events)

-- each event has its place, there are at most 256, the events that are aggregated are known, and the internal
-- events are events
pub record IsSound {B W : Type 0} (c : Inside B W) : Type 0 where
  pub places : HasPlaces c.way
  pub few : length c.way.windows ≤ 256
  pub aggregating : map (λ event. event.0) c.aggregating.items ≡ aggregating_in c.way.windows
  pub lost_events : IsOneOf (length c.way.windows) c.internal.lost_events
  pub lost_contexts : IsOneOf (length c.way.windows) c.internal.lost_contexts
  pub limited : IsOneOf (length c.way.windows) c.internal.limited
