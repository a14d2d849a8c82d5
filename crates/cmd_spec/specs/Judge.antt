-- What the input files of a command deserve: what they ask for, or why the command has to stop,
-- in the order in which files are read and judged.
-- Source: docs/COMMANDS.md, "Order of work".
use Rattle.std.specs.Prelude.{if◌then◌else◌, ◌∷◌, ◌≡◌}
use Rattle.cmd_spec.specs.Names.{BadConfig, BadJournal, BadLine, BadMessages, BadTrace, Command, Differ, EmptyKey, Err, Files, FoldFiles, KeyedFiles, List, MessageParts, Ok, PackFault, Packs, Parts, Reading, Recording, Refusal, ReplayFiles, Result, Round, SealFault, Some, Sources, Stop, Told, Turn, UnpackFault, Unpacks, UnsealFault, Work, [], bundle, bytes_eq, check, codes, common_prefix_len, config_text, configuration, decode, decoded_text, explain, export, file, fold, gen, gives, if_found, joined, joined_sealed, keep, length, memory_text, messages_of, messages_read, migrate, nat_eq, over, recall, refuses, replay, report, rows_of, sign, trace_in, unbundle, verify, ℕ, ◌>>=◌}
use Rattle.gen_options.specs.Given.{Wanted}
use Rattle.gen_recording.specs.Generated.{config_for, trace_for, journal_for, line_for}
use Rattle.chain_endings.specs.ExplainedText.{explained_text}
use Rattle.frame_auth.specs.{GivesSealed, GivesUnsealed, filled}
use Rattle.message_export.specs.Exported.{exported}
use Rattle.cmd_spec.specs.Keeping.{IsRecallWork, saved_text}
use Rattle.cmd_spec.specs.Report.{IsReportWork, sources_in}
use Rattle.cmd_spec.specs.Packing.{IsCopyWork, IsPackWork, IsUnpackWork, one_file, pack_refusal, seal_refusal, unpack_refusal, unseal_refusal}
use Rattle.cmd_spec.specs.Fold.{IsReplayWork, fold_outputs, fold_text}
use Rattle.cmd_spec.specs.FoldedJournal.{folded_in}

-- ---- what they hold

-- the configuration of a file
abbrev pub config_in : List ℕ → Reading Parts
config_in name = file 1048576 name >>= λ text. if_found BadConfig (configuration text)

-- the refusal of a journal for this line, and that of a trace
abbrev pub bad_journal : BadLine → Refusal (List ℕ)
bad_journal bad = BadJournal bad.line bad.fault

abbrev pub bad_trace : BadLine → Refusal (List ℕ)
bad_trace bad = BadTrace bad.line bad.fault

-- a configuration, and what a journal under it tells
pub record Recorded : Type 0 where
  pub config : Parts
  pub told : Told

-- what the file of a journal tells under a configuration
abbrev pub told_in : List ℕ → Parts → Reading Recorded
told_in name config = do
  text ← file 16777216 name
  told ← if_found bad_journal (folded_in config text)
  gives (record { config = config; told = told })

-- what the files of a recording hold
abbrev pub recorded_in : Recording → Reading Recorded
recorded_in names = config_in names.config >>= told_in names.journal

-- a configuration, and the rounds of a trace under it
pub record AskedFor : Type 0 where
  pub config : Parts
  pub rounds : List Round

-- what the file of a trace holds under a configuration
abbrev pub rounds_in : List ℕ → Parts → Reading AskedFor
rounds_in name config = do
  text ← file 16777216 name
  rounds ← if_found bad_trace (trace_in config text)
  gives (record { config = config; rounds = rounds })

-- what the input files of a replay ask for
abbrev pub asked_in : ReplayFiles → Reading AskedFor
asked_in names = config_in names.config >>= rounds_in names.trace

-- ---- the work of commands

-- what a command has to do: this work, to print this configuration, a replay of these rounds, to make of the bytes of one
-- file those of another, to merge these sources, to keep the event memory of these turns on a disk, or to write what a
-- disk keeps
pub data Task : Type 0 where
  does : Work → Task
  migrates : (target : List ℕ) → Parts → Task
  replays : ReplayFiles → Parts → List Round → Task
  seals : (target key : List ℕ) (start : ℕ) (bytes : List ℕ) → Task
  unseals : (target key : List ℕ) (start : ℕ) (bytes : List ℕ) → Task
  packs : (target : List ℕ) (size : ℕ) (bytes : List ℕ) → Task
  unpacks : (target bytes : List ℕ) → Task
  reports : (target : List ℕ) → Sources → Task
  keeps : Parts → List Turn → Task
  recalls : (target : List ℕ) → Task

-- no file, and a line
abbrev pub only_said : List ℕ → Work
only_said said = record { outputs = []; said = said }

-- the configuration's text in the second form, by one file, and the line that says so; it reads back as the same
pub record IsMigrateWork (target : List ℕ) (config : Parts) (work : Work) : Type 0 where
  pub work_is : work ≡ one_file target (config_text config) (codes "form 2\n")
  pub reads_back : configuration (config_text config) ≡ Ok config

-- the work is one that the task asks for: of a replay, that of one history; of a report, that of one merge; of a disk's
-- records, that of some
abbrev pub Does : Task → Work → Type 0
Does (does own) work = work ≡ own
Does (migrates target config) work = IsMigrateWork target config work
Does (replays names config rounds) work = IsReplayWork names config rounds work
Does (seals target key start bytes) work =
    IsCopyWork joined (joined_sealed key start) (codes "signed ") target bytes work
Does (unseals target key start bytes) work =
    IsCopyWork (joined_sealed key start) joined (codes "verified ") target bytes work
Does (packs target size bytes) work = IsPackWork target size bytes work
Does (unpacks target bytes) work = IsUnpackWork target bytes work
Does (reports target sources) work = IsReportWork target sources work
Does (keeps config turns) work = work ≡ only_said (saved_text (length turns))
Does (recalls target) work = IsRecallWork target work

-- the task cannot be done: this is the first fault of the bytes
abbrev pub Refuses : Task → Refusal (List ℕ) → Type 0
Refuses (seals target key start bytes) refusal =
    (fault : SealFault) × GivesSealed key start bytes (Err fault) × (seal_refusal fault ≡ Some refusal)
Refuses (unseals target key start bytes) refusal =
    (fault : UnsealFault) × GivesUnsealed key start bytes (Err fault) × (unseal_refusal fault ≡ Some refusal)
Refuses (packs target size bytes) refusal =
    (fault : PackFault) × Packs size bytes (Err fault) × (pack_refusal fault ≡ Some refusal)
Refuses (unpacks target bytes) refusal =
    (fault : UnpackFault) × Unpacks bytes (Err fault) × (unpack_refusal fault ≡ Some refusal)
Refuses other refusal = ⊥

-- the messages that the chain sends for the turns, the text of its event memory, and the line that counts them
abbrev pub fold_work : FoldFiles → Parts → List Turn → Work
fold_work names config turns = record {
  outputs = fold_outputs names (messages_of config turns) (memory_text (rows_of config turns));
  said = fold_text config turns;
}

-- no file and a line that says so, where the bytes are those that were sent; else the first place at which they
-- differ, which is the end of the shorter ones where these are a first part of the others
abbrev pub check_judged : (bytes sent : List ℕ) → Reading Task
check_judged bytes sent =
    if bytes_eq bytes sent then gives (does (only_said (codes "same\n")))
    else refuses (Differ (common_prefix_len nat_eq bytes sent))

-- no file, and this text of the messages that the bytes are, where they are some
abbrev pub messages_judged : (List MessageParts → List ℕ) → List ℕ → Reading Task
messages_judged text bytes =
    if_found BadMessages (messages_read bytes) >>= λ messages. gives (does (only_said (text messages)))

-- the three files that options give, and the line that tells of them
abbrev pub gen_work : Wanted → Work
gen_work wanted = record {
  outputs =
      record { name = wanted.config; bytes = config_for wanted.options }
      ∷ record { name = wanted.trace; bytes = trace_for wanted.options }
      ∷ record { name = wanted.journal; bytes = journal_for wanted.options } ∷ [];
  said = line_for wanted.options;
}

-- a key, filled to its 64 bytes
abbrev pub key_judged : List ℕ → Reading (List ℕ)
key_judged [] = refuses EmptyKey
key_judged (byte ∷ bytes) = gives (filled (byte ∷ bytes))

-- a key, and the bytes of a file of messages
pub record Keyed : Type 0 where
  pub key : List ℕ
  pub bytes : List ℕ

-- what the input files of `sign` and `verify` hold, of messages at most so many bytes
abbrev pub keyed_in : ℕ → KeyedFiles → Reading Keyed
keyed_in limit names = do
  text ← file 64 names.key
  key ← key_judged text
  bytes ← file limit names.files.source
  gives (record { key = key; bytes = bytes })

-- what a command reads, each file judged before the next is read, and what it then has to do
unfoldable pub reading_of : Command → Reading Task
reading_of (fold names) = do
  recorded ← recorded_in names.from
  gives (does (fold_work names recorded.config recorded.told.turns))
reading_of (check names) = do
  recorded ← recorded_in names.from
  bytes ← file 67108864 names.messages
  check_judged bytes (messages_of recorded.config recorded.told.turns)
reading_of (decode name) = file 67108864 name >>= messages_judged decoded_text
reading_of (gen wanted) = gives (does (gen_work wanted))
reading_of (migrate names) = do
  config ← config_in names.source
  gives (migrates names.target config)
reading_of (replay names) = do
  asked ← asked_in names
  gives (replays names asked.config asked.rounds)
reading_of (sign names) = do
  keyed ← keyed_in 67108864 names
  gives (seals names.files.target keyed.key names.start keyed.bytes)
reading_of (verify names) = do
  keyed ← keyed_in 536870912 names
  gives (unseals names.files.target keyed.key names.start keyed.bytes)
reading_of (bundle names) = do
  bytes ← file 67108864 names.files.source
  gives (packs names.files.target names.size bytes)
reading_of (unbundle names) = do
  bytes ← file 134217728 names.source
  gives (unpacks names.target bytes)
reading_of (report names) = do
  sources ← sources_in [] names.sources
  gives (reports names.target sources)
reading_of (keep names) = do
  recorded ← recorded_in names.from
  gives (keeps recorded.config recorded.told.turns)
reading_of (recall names) = gives (recalls names.target)
reading_of (explain names) = do
  recorded ← recorded_in names
  gives (does (only_said (explained_text recorded.config recorded.told)))
reading_of (export names) = file 16777216 names.messages >>= messages_judged (exported names.format)

-- what a command has to do over these files, or why they do not serve
abbrev pub judge : Command → Files → Result Task (Stop (List ℕ))
judge command files = over (reading_of command) files
