-- A command as the program holds it, with its names lent from the words.
use Rattle.std.specs.Prelude.{◌^◌, ◌≤◌, IsTrue, length, map, string_bytes, ⊤}
use Rattle.gen_options.specs.{given_of, is_in_range}
use Rattle.cmd_words.specs.declared.files.FoldNames.{FoldNames}
use Rattle.cmd_words.specs.declared.files.CheckNames.{CheckNames}
use Rattle.cmd_words.specs.declared.files.RecordingNames.{RecordingNames}
use Rattle.cmd_words.specs.declared.files.KeepNames.{KeepNames}
use Rattle.cmd_words.specs.declared.files.ExportNames.{ExportNames}
use Rattle.cmd_words.specs.declared.files.KeyedNames.{KeyedNames}
use Rattle.cmd_words.specs.declared.files.PairNames.{PairNames}
use Rattle.cmd_words.specs.declared.files.SizedNames.{SizedNames}
use Rattle.cmd_words.specs.declared.files.ReportNames.{ReportNames}
use Rattle.cmd_words.specs.declared.command.Request.{Request}
use Rattle.cmd_words.specs.declared.files.ReplayNames.{ReplayNames}
use Rattle.cmd_words.specs.declared.command.Request.TheVariants.{Fold, Check, Decode, Gen, Migrate, Sign, Verify, Bundle, Unbundle, Replay, Report, Keep, Recall, Explain, Export}
use Rattle.cmd_words.specs.Command.{Recording, FoldFiles, CheckFiles, PairFiles, KeyedFiles, SizedFiles, ReplayFiles, ReportFiles, ExportFiles, KeepFiles, Command, fold, check, decode, gen, migrate, sign, verify, bundle, unbundle, replay, report, keep, recall, explain, export, are_names, written_by}

-- the names of a recording as bytes
abbrev pub recording : RecordingNames → Recording
recording names = record { config = names.config.now; journal = names.journal.now }

-- the names of `fold`
abbrev pub files_of : FoldNames → FoldFiles
files_of names = record {
  from = recording names.from;
  messages = names.messages.now;
  memory = names.memory.now;
}

-- the same of `check`
abbrev pub three_of : CheckNames → CheckFiles
three_of names = record { from = recording names.from; messages = names.messages.now }

-- the same of a file that is read and one that is written
abbrev pub pair_of : PairNames → PairFiles
pair_of names = record { source = names.source.now; target = names.target.now }

-- and with a key, and with a size
abbrev pub keyed_of : KeyedNames → KeyedFiles
keyed_of names = record { key = names.key.now; start = names.start; files = pair_of names.files }

abbrev pub sized_of : SizedNames → SizedFiles
sized_of names = record { size = names.size; files = pair_of names.files }

-- and with a format
abbrev pub exported_of : ExportNames → ExportFiles
exported_of names = record { format = names.format; messages = names.messages.now }

-- the same of `report`
abbrev pub report_files_of : ReportNames → ReportFiles
report_files_of names = record { target = names.target.now; sources = map string_bytes names.sources.now }

-- the same of `replay`
abbrev pub five_of : ReplayNames → ReplayFiles
five_of names = record {
  config = names.config.now;
  trace = names.trace.now;
  messages = names.messages.now;
  memory = names.memory.now;
  journal = names.journal.now;
}

-- the names of `keep` as bytes
abbrev pub keep_files_of : KeepNames → KeepFiles
keep_files_of names = record { disk = names.disk.now; from = recording names.from }

-- the command that is asked for
abbrev pub asked : Request → Command
asked (Fold names) = fold (files_of names)
asked (Check names) = check (three_of names)
asked (Decode messages) = decode messages.now
asked (Gen given) = gen (given_of given)
asked (Migrate names) = migrate (pair_of names)
asked (Sign names) = sign (keyed_of names)
asked (Verify names) = verify (keyed_of names)
asked (Bundle names) = bundle (sized_of names)
asked (Unbundle names) = unbundle (pair_of names)
asked (Replay names) = replay (five_of names)
asked (Report names) = report (report_files_of names)
asked (Keep names) = keep (keep_files_of names)
asked (Recall names) = recall (pair_of names)
asked (Explain names) = explain (recording names)
asked (Export names) = export (exported_of names)

-- the names of the files that the command writes differ
abbrev pub WritesApart : Command → Type 0
WritesApart command = IsTrue (are_names (written_by command))

-- there are 1 to 8 files of managers
pub record CanReport (names : ReportNames) : Type 0 where
  pub some : 1 ≤ length names.sources.now
  pub few : length names.sources.now ≤ 8

-- what is asked for can be done: the files that it writes have names of their own, and options and numbers are in their
-- ranges
abbrev pub CanRun : Request → Type 0
CanRun (Fold names) = WritesApart (fold (files_of names))
CanRun (Gen given) = IsTrue (is_in_range given.options) × WritesApart (gen (given_of given))
CanRun (Sign names) = names.start ≤ 2 ^ 62
CanRun (Verify names) = names.start ≤ 2 ^ 62
CanRun (Bundle names) = 64 ≤ names.size
CanRun (Replay names) = WritesApart (replay (five_of names))
CanRun (Report names) = CanReport names
CanRun other = ⊤
