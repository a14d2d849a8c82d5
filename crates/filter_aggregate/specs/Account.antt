-- Parcels, counted: none is made, and none is lost.
use Rattle.std.specs.Prelude.{List, ◌++◌, option_to_list, flat_map}
use Rattle.std.specs.List.Sorted.{IsPermutation}
use Rattle.filter_aggregate.specs.declared.slot.Slot.{Slot}
use Rattle.filter_aggregate.specs.Slots.{held_in}

-- what came, with what was there before, is what was handed out, with what is there now, in another order
abbrev pub Accounts : {B : Type 0} → List B → List B → List B → List B → Type 0
Accounts came before handed now = IsPermutation (came ++ before) (handed ++ now)

-- the parcel of a slot, if it holds one, as a list
abbrev pub kept_in : {B : Type 0} → Slot B → List B
kept_in slot = option_to_list (held_in slot)

-- the parcels that slots hold
abbrev pub all_kept : {B : Type 0} → List (Slot B) → List B
all_kept slots = flat_map kept_in slots
