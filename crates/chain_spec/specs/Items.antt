-- Items: security events on their way through the filters.
-- Public standard: AUTOSAR SWS Intrusion Detection System Manager, filter chain.
use Rattle.std.specs.Prelude.{ℕ, ◌==◌, List, Bool, length, filter, Option, Some, None, option_map}
use Rattle.ids_types.specs.declared.entry.Carried.{Carried}
use Rattle.ids_types.specs.declared.entry.Carried.TheVariants.{Absent, Kept, Missing}
use Rattle.ids_types.specs.declared.event.Qualified.{Qualified}
use Rattle.ids_types.specs.declared.names.Stamp.{Stamp}

-- a security event with the tick of its turn and its count, and with its timestamp and its context data
-- if it has them
pub record Item : Type 0 where
  pub event : ℕ
  pub tick : ℕ
  pub count : ℕ
  pub stamp : Option Stamp
  pub context : Option (List ℕ)

-- the item is one of this event
abbrev pub is_of : ℕ → Item → Bool
is_of event item = item.event == event

-- how many of the items are of an event
abbrev pub number_of : ℕ → List Item → ℕ
number_of event items = length (filter (is_of event) items)

-- what an item tells beside its tick
abbrev pub told_of : Item → Qualified (List ℕ)
told_of item = record { event = record { 0 = item.event }; count = item.count; stamp = item.stamp; context = item.context }

-- the item of this tick that tells this
abbrev pub item_at : ℕ → Qualified (List ℕ) → Item
item_at tick told = record { event = told.event.0; tick = tick; count = told.count; stamp = told.stamp; context = told.context }

-- the same told over another holder of context data
abbrev pub told_by : {A B : Type 0} → (A → B) → Qualified A → Qualified B
told_by f told = record { event = told.event; count = told.count; stamp = told.stamp; context = option_map f told.context }

-- the context data of a report, which it has if they are kept
abbrev pub kept_parcel : {B : Type 0} → Carried B → Option B
kept_parcel Absent = None
kept_parcel (Kept class claim parcel) = Some parcel
kept_parcel (Missing numbers) = None
