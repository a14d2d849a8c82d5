-- The commands `sign`, `verify`, `bundle` and `unbundle`: the file that they write, their text, and why they refuse what
-- they read.
use Rattle.std.specs.Prelude.{◌++◌, ◌∷◌, ◌≡◌}
use Rattle.cmd_spec.specs.Names.{ArePacked, BadCounter, BadMessages, BadTag, BadUnit, Copies, List, MessageParts, NoMemory, None, Ok, Option, PackFault, Refusal, Refused, SealFault, Signed, Some, Stop, TooLarge, UnpackFault, Unpacks, UnsealFault, Work, [], codes, decimal, joined, length, number_text, ℕ}
use Rattle.ids_bundle.specs.Units.{Run, all_of, units}
use Rattle.frame_auth.specs.declared.fault.SealFault.TheVariants as seals
use Rattle.frame_auth.specs.declared.fault.UnsealFault.TheVariants as unseals
use Rattle.ids_bundle.specs.declared.fault.PackFault.TheVariants as packing
use Rattle.ids_bundle.specs.declared.fault.UnpackFault.TheVariants as unpacking

-- ---- messages with seals

-- one file of these bytes, and a line
abbrev pub one_file : (target bytes said : List ℕ) → Work
one_file target bytes said = record { outputs = record { name = target; bytes = bytes } ∷ []; said = said }

-- the messages of these bytes were written to the target in another form, and the line has their number
pub record IsCopyWork (from to : List MessageParts → List ℕ) (word target bytes : List ℕ) (work : Work) : Type 0 where
  pub out : List ℕ
  pub copies : Copies from to bytes out
  pub work_is : work ≡ one_file target out (number_text word (length copies.messages))

-- how a fault of sealing is told; want of memory is no refusal
abbrev pub seal_refusal : {N : Type 0} → SealFault → Option (Refusal N)
seal_refusal (seals.Bad bad) = Some (BadMessages bad)
seal_refusal (seals.Signed at) = Some (Signed at)
seal_refusal seals.NoMemory = None

-- and one of unsealing
abbrev pub unseal_refusal : {N : Type 0} → UnsealFault → Option (Refusal N)
unseal_refusal (unseals.Bad bad) = Some (BadMessages bad)
unseal_refusal (unseals.Tag at) = Some (BadTag at)
unseal_refusal (unseals.Counter at) = Some (BadCounter at)
unseal_refusal unseals.NoMemory = None

-- why a command stops that could not do a task: the refusal, or want of memory
abbrev pub task_stop : {N : Type 0} → Option (Refusal N) → Stop N
task_stop (Some refusal) = Refused refusal
task_stop None = NoMemory

-- ---- messages in units

-- the line `units U messages M`, with its line feed
abbrev pub units_text : (units messages : ℕ) → List ℕ
units_text units messages = codes "units " ++ (decimal units ++ (codes " messages " ++ (decimal messages ++ codes "\n")))

-- the line that counts these runs
abbrev pub runs_text : List Run → List ℕ
runs_text runs = units_text (length runs) (length (all_of runs))

-- the units of the messages' greedy cut, and their line
pub record IsPackWork (target : List ℕ) (size : ℕ) (bytes : List ℕ) (work : Work) : Type 0 where
  pub runs : List Run
  pub packed : ArePacked size bytes runs
  pub work_is : work ≡ one_file target (units runs) (runs_text runs)

-- the messages of the units, and their line
pub record IsUnpackWork (target bytes : List ℕ) (work : Work) : Type 0 where
  pub runs : List Run
  pub unpacked : Unpacks bytes (Ok runs)
  pub work_is : work ≡ one_file target (joined (all_of runs)) (runs_text runs)

-- how a fault of packing is told; want of memory is no refusal
abbrev pub pack_refusal : {N : Type 0} → PackFault → Option (Refusal N)
pack_refusal (packing.Bad bad) = Some (BadMessages bad)
pack_refusal (packing.TooLarge at) = Some (TooLarge at)
pack_refusal packing.NoMemory = None

-- and one of unpacking
abbrev pub unpack_refusal : {N : Type 0} → UnpackFault → Option (Refusal N)
unpack_refusal (unpacking.Bad at) = Some (BadUnit at)
unpack_refusal (unpacking.Cut at) = Some (BadUnit at)
unpack_refusal unpacking.NoMemory = None
