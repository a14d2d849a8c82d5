-- A command that makes its files, and its line, of what it has read.
use Rattle.std.specs.Prelude.{◌≡◌}
use Rattle.cmd_steps.specs.Names.{Bor, Command, Does, Err, List, Ok, Reads, Refuses, Result, Shelved, Stop, Task, Work, map, one_file, output_of, plain_refusal, reading_of, written_by, ℕ, ⊤}
use Rattle.cmd_files.specs.declared.outputs.NewFile.{NewFile}
use Rattle.cmd_files.specs.declared.stop.Stop.TheVariants.{Refused, NoMemory}
use Rattle.cmd_steps.specs.declared.making.Made.{Made}

-- the command came to this task, of which it does each by files of these names, and has only read files before
pub record HasCome (command : Command) (task : Task) (names : List (List ℕ)) (first old : Shelved) : Type 0 where
  pub read : Reads (reading_of command) (Ok task) first old
  pub writes : names ≡ written_by command

-- the work of these files and this line
abbrev pub work_of : List NewFile → List ℕ → Work
work_of files said = record { outputs = map output_of files; said = said }

-- what the task asks for was made, in one file, or it cannot be done, or memory was wanted
abbrev pub Makes : Task → List ℕ → Result Made (Stop (Bor (List ℕ))) → Type 0
Makes task target (Ok made) = Does task (one_file target made.bytes.items made.line.items)
Makes task target (Err (Refused refusal)) = Refuses task (plain_refusal refusal)
Makes task target (Err NoMemory) = ⊤
Makes task target (Err reason) = ⊥
