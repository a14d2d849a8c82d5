-- Which configuration bytes have, or which fault, and what an answer of `read` says.
-- Source: the configuration format of this project (docs/CONFIGURATION.md).
use Rattle.std.specs.Prelude.{◌≡◌, ℕ, List, Option, Some, None, Result, Ok, Err, if◌then◌else◌, ⊤}
use Rattle.std.specs.Str.{is_utf8}
use Rattle.serde_json.specs.Data.{Data}
use Rattle.serde_json.specs.Read.{read}
use Rattle.ids_config.specs.declared.config.Config.{Config}
use Rattle.ids_config.specs.declared.fault.ConfigFault.{ConfigFault}
use Rattle.ids_config.specs.declared.fault.ConfigPlace.TheVariants as places
use Rattle.ids_config.specs.Parts.{Parts}
use Rattle.ids_config.specs.{◌>>◌, checked}
use Rattle.config_json.specs.declared.fault.JsonFault.{JsonFault}
use Rattle.config_json.specs.declared.fault.JsonFault.TheVariants as faults
use Rattle.config_json.specs.Members.{parts_in}
use Rattle.config_json.specs.Shape.{config_shape}

-- the configuration of a tree, or its first fault: those of shape come before those of value
abbrev pub config_in : Data → Result Parts ConfigFault
config_in tree = config_shape tree >> checked (parts_in tree)

-- the tree that bytes are the JSON text of, none where they are no such text
abbrev pub tree_of : List ℕ → Option Data
tree_of bytes = if is_utf8 bytes then read bytes else None

-- the configuration of the tree; where there is none, the fault of bytes that are no JSON text
abbrev pub config_of : Option Data → Result Parts ConfigFault
config_of None = Err (record { number = 1; place = places.Top })
config_of (Some tree) = config_in tree

-- the configuration that bytes are the text of, or their first fault
abbrev pub configuration : List ℕ → Result Parts ConfigFault
configuration bytes = config_of (tree_of bytes)

-- what an answer says: what was found, or want of memory
abbrev pub Tells : Result Parts ConfigFault → Result Config JsonFault → Type 0
Tells found (Ok config) = found ≡ Ok config
Tells found (Err (faults.Config fault)) = found ≡ Err fault
Tells found (Err faults.NoMemory) = ⊤
