-- The commands `keep` and `recall`: their lines, the file that `recall` writes, and how their work on a disk may stop.
use Rattle.std.specs.Prelude.{◌≡◌}
use Rattle.cmd_spec.specs.Names.{Command, DiskStop, List, Work, number_text, codes, keep, length, memory_text, recall, ℕ}
use Rattle.ids_types.specs.MemoryRow.{Row}
use Rattle.cmd_files.specs.declared.stop.DiskStop.TheVariants.{Failed, Damaged}
use Rattle.cmd_spec.specs.Packing.{one_file}

-- the line `saved T`, with its line feed
abbrev pub saved_text : ℕ → List ℕ
saved_text saves = number_text (codes "saved ") saves

-- the text of these records as a file, and the line `records R`
abbrev pub recall_work : List ℕ → List Row → Work
recall_work target rows = one_file target (memory_text rows) (number_text (codes "records ") (length rows))

-- the work writes the text of some records
pub record IsRecallWork (target : List ℕ) (work : Work) : Type 0 where
  pub rows : List Row
  pub work_is : work ≡ recall_work target rows

-- the command's work on its disk may stop so
abbrev pub MayStopOnDisk : Command → DiskStop → Type 0
MayStopOnDisk (keep names) Failed = ⊥
MayStopOnDisk (keep names) stop = Unit {0}
MayStopOnDisk (recall names) Failed = Unit {0}
MayStopOnDisk (recall names) (Damaged slot) = Unit {0}
MayStopOnDisk (recall names) stop = ⊥
MayStopOnDisk command stop = ⊥
