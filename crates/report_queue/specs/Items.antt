-- What a queue carries, as a freight of its ring.
use Rattle.std.specs.Prelude.{◌≡◌, ℕ, ◌-◌, ◌<◌, ◌^◌, List}
use mathlib.Core.Option.{some}
use lib.ListN.{get_elem?}
use Rattle.report_queue.specs.Names.{Outcome, Got, SeatMemo, Item}

-- the item's note: its caller, its call and the note of its load
abbrev pub item_note : {L N : Type 0} → (L → N) → Item L → Item N
item_note note item = record { caller = item.caller; call = item.call; payload = note item.payload }

-- the item of the call that a caller made last: it names the caller and the call
abbrev pub item_by : {N : Type 0} → SeatMemo (Item N) → N → Item N
item_by caller note = record { caller = caller.number; call = caller.view.calls - 1; payload = note }

-- how many losses of each kind a caller marked
abbrev pub marks_made : {N : Type 0} → SeatMemo N → ℕ × ℕ
marks_made caller = (caller.view.marks0, caller.view.marks1)

-- whatever spent load is offered
abbrev pub admits_all : {T O : Type 0} → T → O → Type 0
admits_all terms offered = Unit {0}

-- the caller and the call are in range, and the load's note is admitted
abbrev pub admits_item : {T N : Type 0} → (T → N → Type 0) → T → Item N → Type 0
admits_item admits_note terms item = (item.caller < 32) × (item.call < 2 ^ 40) × admits_note terms item.payload

-- an item that call j of caller i got names i and j
abbrev pub NamesItsCalls : {N : Type 0} → ℕ → List (Outcome (Item N)) → Type 0
NamesItsCalls {N = N} i log = (j t : ℕ) (item : Item N) → get_elem? log j ≡ some (Got t item) → (item.caller ≡ i) × (item.call ≡ j)
