-- A command that writes what it made, or could not make it.
use Rattle.cmd_steps.proofs.Names.{Bor, Command, Does, EndsAs, Err, Global, HasCome, List, Makes, Ok, Reads, Result, Shelved, Stop, Task, Vec, WasDone, [], are_names, arith, bytes_eq, bytes_eq-Decides, cannot_do, does, false, list_any, only_said, plain_end, plain_stop, reading_ends, reading_of, refl, seen_as, true, work_done, written_by, ℕ, ◌∷◌, ◌≡◌}
use Rattle.cmd_files.specs.{AreApart, IsNoneOf}

-- ---- names

none_of : (name : List ℕ) (names : List (List ℕ)) → list_any (bytes_eq name) names ≡ false → IsNoneOf names name
none_of name [] none = tt
none_of name (other ∷ names) none = grind (arith, none, bytes_eq-Decides name other, none_of name names)

-- names of different files are not the same
pub are_apart : (names : List (List ℕ)) → are_names names ≡ true → AreApart names
are_apart [] are = tt
are_apart (name ∷ names) are = grind (arith, are, none_of name names, are_apart names)

-- ---- ends

-- a command that writes no file did its work, with this line
pub work_said : (command : Command) (task : Task) (said own : List ℕ) (first old : Shelved) → Reads (reading_of command) (Ok task) first old
    → [] ≡ written_by command → Does task (only_said own) → said ≡ own → WasDone command said first old
work_said command task said own first old read writes done is =
    work_done command task first old read (only_said own) done writes old said is (grind arith)

-- a command that has no file to write, and only a text to put, ends so
pub text_ends : (command : Command) (answer : Result (Vec ℕ Global) (Stop (Bor (List ℕ)))) (old new : Shelved)
    → Reads (reading_of command) (seen_as (λ text. does (only_said text.items)) answer) old new → [] ≡ written_by command
    → EndsAs command (plain_end answer) old new
text_ends command (Ok text) old new read writes =
    work_said command (does (only_said text.items)) text.items text.items old new read writes refl refl
text_ends command (Err reason) old new read writes = reading_ends command (plain_stop reason) old new read

-- the task cannot be done, or memory was wanted
pub not_made : (command : Command) (task : Task) (target : List ℕ) (names : List (List ℕ)) (first old : Shelved)
    → HasCome command task names first old → (reason : Stop (Bor (List ℕ))) → Makes task target (Err reason)
    → EndsAs command (Err (plain_stop reason)) first old
not_made command task target names first old come reason makes = grind (arith, makes, come.read.same, cannot_do command task first old come.read)
