-- What each shelf and each sink knows of itself; and files that a test gives to a shelf in memory, and how
-- that shelf keeps them.
use Rattle.std.specs.Prelude.{◌&&◌, ℕ, Bool, true, not, List, [], ◌∷◌, ◌++◌, reverse, Option, None, Some, option_map, find, Result, Ok, Err, String, Vec, string_bytes, ⊤}
use Rattle.std.specs.List.{list_any}
use Rattle.std.specs.Str.{bytes_eq}
use Rattle.std.specs.BTreeMap.{BTreeMap, get_by_text}
use Rattle.std.specs.declared.alloc.Global.{Global}
use Rattle.ids_outside.specs.Faults.{Faults, Plan}
use Rattle.ids_outside.specs.Files.{Files, SameFiles, Changes, bytes_at}
use Rattle.ids_outside.specs.Sinks.{Misses}
use Rattle.ids_outside.specs.declared.host_shelf.HostShelf.{HostShelf}
use Rattle.ids_outside.specs.declared.host_shelf.HostSink.{HostSink}
use Rattle.ids_outside.specs.declared.memory_shelf.MemoryShelf.{MemoryShelf}
use Rattle.ids_outside.specs.declared.memory_sink.MemorySink.{MemorySink}
use Rattle.ids_outside.specs.declared.steady_shelf.SteadyShelf.{SteadyShelf}

-- a file as a test gives it: its name and its bytes
abbrev pub Given : Type 0
Given = String Global × Vec ℕ Global

-- the given file has this name
abbrev pub has_name : List ℕ → Given → Bool
has_name name file = bytes_eq name (string_bytes file.0)

-- no two of the given files have one name
abbrev pub names_differ : List Given → Bool
names_differ [] = true
names_differ (file ∷ rest) =
    not (list_any (has_name (string_bytes file.0)) rest) && names_differ rest

-- the given files, by name; of those of one name the last one stays
abbrev pub given_files : List Given → Files
given_files given name = option_map (λ file. file.1.items) (find (has_name name) (reverse given))

-- the files that the map keeps, by name
abbrev pub files_in : BTreeMap (String Global) (Vec ℕ Global) → Files
files_in kept name = option_map (λ bytes. bytes.items) (get_by_text kept name)

-- the piece is after the bytes of this name, or no file changed
abbrev pub Adds : {E : Type 0} → Files → Files → List ℕ → List ℕ → Result ⊤ E → Type 0
Adds old new name piece (Ok done) = Changes old new name (Some (bytes_at old name ++ piece))
Adds old new name piece (Err fault) = SameFiles old new

-- the files of the shelf, by name
abbrev pub shelf_files : MemoryShelf → Files
shelf_files shelf = files_in shelf.files

-- the faults that the shelf has met
abbrev pub shelf_faults : MemoryShelf → Faults
shelf_faults shelf = shelf.faults

-- which calls of the shelf are to fail, and how many were made
abbrev pub shelf_plan : MemoryShelf → Plan
shelf_plan shelf = shelf.script

-- the bytes that the sink has taken
abbrev pub sink_taken : MemorySink → List ℕ
sink_taken sink = sink.taken.items

-- how many puts failed, and how many were refused memory
abbrev pub sink_misses : MemorySink → Misses
sink_misses sink = sink.missed

-- which puts are to fail, and how many were made
abbrev pub sink_plan : MemorySink → Plan
sink_plan sink = sink.script

-- the files of the shelf, by name
abbrev pub steady_files : SteadyShelf → Files
steady_files shelf = files_in shelf.files

-- how often memory was refused to it; it has no other fault
abbrev pub steady_faults : SteadyShelf → Faults
steady_faults shelf = record { count = 0; last = None; refused = shelf.faults.refused }

-- the faults that the shelf has met
abbrev pub host_shelf_faults : {R File Dir : Type 0} → HostShelf R File Dir → Faults
host_shelf_faults shelf = shelf.faults

-- the name of the file that is open to be written to
abbrev pub open_name : {R File Dir : Type 0} → HostShelf R File Dir → Option (List ℕ)
open_name shelf = option_map (λ file. string_bytes file.name) shelf.current

-- how many puts failed, and how many were refused memory
abbrev pub host_sink_misses : {R : Type 0} → HostSink R → Misses
host_sink_misses sink = sink.missed
