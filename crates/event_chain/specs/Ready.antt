-- What keeps each call safe, whatever was before: as plain data.
use Rattle.std.specs.Prelude.{◌≡◌, ℕ, ◌+◌, ◌++◌, ◌*◌, ◌<◌, ◌-◌, ◌^◌, ◌≤◌, List, length, filter, Bool, is_some, IfSome, Vec, vec_capacity}
use Rattle.event_chain.specs.Names.{IsFalse, Global, range_with_len, all_kept, Slot, Output, room_of, Item, IsShort, most_message, HandsBack, carried_room, is_due, slot_at}
use Rattle.event_chain.specs.declared.rest.Rest.{Rest}
use Rattle.event_chain.specs.declared.way.Way.{Way}

-- event k has its place in each list after the windows
pub record HasEvent (k : ℕ) (rest : Rest) : Type 0 where
  pub threshold : k < length rest.thresholds
  pub source : k < length rest.sources

-- an item can be taken: it is one of the chain's with short context data, and there is room for its message and for one
-- more that is held back
pub record CanTake (rest : Rest) (item : Item) (out : Output) : Type 0 where
  pub has : HasEvent item.event rest
  pub context : IfSome item.context IsShort
  pub few_held : rest.sender.held < 2 ^ 45
  pub room : most_message item.context ≤ out.sent_left
  pub few_messages : out.messages < 2 ^ 32 - 1

-- no window is due at a tick
abbrev pub SettledAt : {B : Type 0} → ℕ → List (Slot B) → Type 0
SettledAt tick slots = (k : ℕ) → IsFalse (is_due tick (slot_at slots k))

-- the event is aggregated
abbrev pub is_aggregated : {B : Type 0} → List (Slot B) → ℕ → Bool
is_aggregated slots k = is_some (slot_at slots k).setting

-- the events that are aggregated, in their order
abbrev pub aggregating_in : {B : Type 0} → List (Slot B) → List ℕ
aggregating_in slots = filter (is_aggregated slots) (range_with_len 0 (length slots))

-- each open window is of items of its own event
abbrev pub AreOwn : {B : Type 0} → List (Slot B) → Type 0
AreOwn slots = (k : ℕ) → IfSome (slot_at slots k).window (λ w. w.item.event.0 ≡ k)

-- windows that changed by one call at a tick: there are as many, each of its own event and aggregated as it was,
-- and none more is due
pub record Windowed {B : Type 0} (tick : ℕ) (old new : List (Slot B)) : Type 0 where
  pub events : length new ≡ length old
  pub own : AreOwn old → AreOwn new
  pub settings : (k : ℕ) → (slot_at new k).setting ≡ (slot_at old k).setting
  pub settled : (k : ℕ) → IsFalse (is_due tick (slot_at old k)) → IsFalse (is_due tick (slot_at new k))

-- each event has its place in every list, and each open window is its event's own
pub record HasPlaces {B W : Type 0} (way : Way B W) : Type 0 where
  pub gate : (k : ℕ) → k < length way.windows → k < length way.gate.rows
  pub has : (k : ℕ) → k < length way.windows → HasEvent k way.rest
  pub own : AreOwn way.windows

-- so many messages more can be counted, and as many that are held back
pub record CanSend {B W : Type 0} (n : ℕ) (way : Way B W) (out : Output) : Type 0 where
  pub few_held : way.rest.sender.held + n ≤ 2 ^ 45
  pub few_messages : out.messages + n ≤ 2 ^ 32 - 1

-- so many moments took room for as many messages at most, with the context data of the parcels that they handed back
abbrev pub TakesRoom : {B : Type 0} → (B → List ℕ) → ℕ → List B → List B → Output → Output → Type 0
TakesRoom held moments back_before back_now before after =
    before.sent_left + carried_room held back_before ≤ after.sent_left + carried_room held back_now + 16 * moments

-- so many moments more can come with these parcels: there is room for their messages, and for all parcels to be handed back
pub record HasLeft {B W : Type 0} (held : B → List ℕ) (n : ℕ) (came : List B) (way : Way B W) (back : Vec B Global) (out : Output) : Type 0 where
  pub places : HasPlaces way
  pub can : CanSend n way out
  pub room : 16 * n + carried_room held (came ++ all_kept way.windows) ≤ out.sent_left
  pub handed : length back.items + length (came ++ all_kept way.windows) ≤ vec_capacity back

-- what so many moments leave as it was, and how much they count at most
pub record Stays {B W : Type 0} (moments tick : ℕ) (old new : Way B W) (before after : Output) : Type 0 where
  pub places : HasPlaces old → HasPlaces new
  pub windows : Windowed tick old.windows new.windows
  pub counted : new.rest.sender.held ≤ old.rest.sender.held + moments
  pub messages : after.messages ≤ before.messages + moments
  pub room : room_of after ≡ room_of before

-- so many moments came with these parcels, each of which was handed back or is kept
pub record Moved {B W : Type 0} (held : B → List ℕ) (tick n : ℕ) (came : List B) (old new : Way B W) (was back : Vec B Global)
    (before after : Output) : Type 0 where
  pub stays : Stays n tick old new before after
  pub sends : TakesRoom held n was.items back.items before after
  pub parcels : HandsBack came (all_kept old.windows) (all_kept new.windows) was.items back.items
  pub capacity : vec_capacity back ≡ vec_capacity was
