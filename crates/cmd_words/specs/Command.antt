-- The commands of the program, as its words give them.
-- Source: docs/COMMANDS.md.
use Rattle.std.specs.Prelude.{ℕ, ◌^◌, ◌&&◌, ◌==◌, nat_le, not, bytes_eq, Bool, true, false, List, [], ◌∷◌, ◌++◌, length, Option, Some, None, option_map, codes, if◌then◌else◌}
use Rattle.gen_options.specs.{Wanted, words_give}
use Rattle.message_export.specs.declared.exporting.Format.{Format}
use Rattle.message_export.specs.declared.exporting.Format.TheVariants.{Json, Pcap}
use Rattle.std.specs.List.{list_any}
use Rattle.text_spec.specs.Maybe.{◌>>=◌}
use Rattle.text_spec.specs.Numbers.{number_in}

-- the files of a recording: a configuration, and a journal of its events
pub record Recording : Type 0 where
  pub config : List ℕ
  pub journal : List ℕ

-- the files that `fold` names: the recording that it reads, and two that it writes
pub record FoldFiles : Type 0 where
  pub from : Recording
  pub messages : List ℕ
  pub memory : List ℕ

-- the files that `check` names: the recording, and the messages that are compared with its own
pub record CheckFiles : Type 0 where
  pub from : Recording
  pub messages : List ℕ

-- a file that a command reads, and one that it writes
pub record PairFiles : Type 0 where
  pub source : List ℕ
  pub target : List ℕ

-- the files that `sign` and `verify` name: one that holds the key, and two more; and the first counter
pub record KeyedFiles : Type 0 where
  pub key : List ℕ
  pub start : ℕ
  pub files : PairFiles

-- the files that `bundle` names, and how many bytes of messages a unit may have
pub record SizedFiles : Type 0 where
  pub size : ℕ
  pub files : PairFiles

-- the file of messages that `export` names, and the format that it gives them
pub record ExportFiles : Type 0 where
  pub format : Format
  pub messages : List ℕ

-- the files that `report` names: one that it writes, and those of the managers
pub record ReportFiles : Type 0 where
  pub target : List ℕ
  pub sources : List (List ℕ)

-- the files that `replay` names: a configuration and a trace that it reads, and three that it writes
pub record ReplayFiles : Type 0 where
  pub config : List ℕ
  pub trace : List ℕ
  pub messages : List ℕ
  pub memory : List ℕ
  pub journal : List ℕ

-- what `keep` names: the disk, and the recording that it reads
pub record KeepFiles : Type 0 where
  pub disk : List ℕ
  pub from : Recording

-- what a run is asked to do; of the names of `recall` the first is that of the disk
pub data Command : Type 0 where
  fold : FoldFiles → Command
  check : CheckFiles → Command
  decode : List ℕ → Command
  gen : Wanted → Command
  migrate : PairFiles → Command
  replay : ReplayFiles → Command
  sign : KeyedFiles → Command
  verify : KeyedFiles → Command
  bundle : SizedFiles → Command
  unbundle : PairFiles → Command
  report : ReportFiles → Command
  keep : KeepFiles → Command
  recall : PairFiles → Command
  explain : Recording → Command
  export : ExportFiles → Command

-- the usage, with the commands that are built
abbrev pub usage : List ℕ
usage =
    codes "usage: idsm replay CONFIG TRACE MESSAGES MEMORY JOURNAL\n"
    ++ codes "       idsm fold CONFIG JOURNAL MESSAGES MEMORY\n"
    ++ codes "       idsm check CONFIG JOURNAL MESSAGES\n"
    ++ codes "       idsm decode MESSAGES\n"
    ++ codes "       idsm gen [--start N] [--callers N] [--rounds N] [--events N] CONFIG TRACE JOURNAL\n"
    ++ codes "       idsm migrate CONFIG NEW\n"
    ++ codes "       idsm report OUT FILE ..\n"
    ++ codes "       idsm keep DISK CONFIG JOURNAL\n"
    ++ codes "       idsm recall DISK MEMORY\n"
    ++ codes "       idsm sign KEY START MESSAGES SIGNED\n"
    ++ codes "       idsm verify KEY START SIGNED MESSAGES\n"
    ++ codes "       idsm bundle SIZE MESSAGES UNITS\n"
    ++ codes "       idsm unbundle UNITS MESSAGES\n"
    ++ codes "       idsm explain CONFIG JOURNAL\n"
    ++ codes "       idsm export FORMAT MESSAGES\n"

-- a word that may be a name: it is not empty
abbrev pub is_name : List ℕ → Bool
is_name word = not (length word == 0)

-- the words are names of different files
abbrev pub are_names : List (List ℕ) → Bool
are_names [] = true
are_names (name ∷ names) = is_name name && not (list_any (bytes_eq name) names) && are_names names

-- generation into these files, if they are names of different files
abbrev pub gen_into : Wanted → Option Command
gen_into wanted =
    if are_names (wanted.config ∷ wanted.trace ∷ wanted.journal ∷ []) then Some (gen wanted) else None

-- generation, where something is wanted
abbrev pub gen_for : Option Wanted → Option Command
gen_for None = None
gen_for (Some wanted) = gen_into wanted

-- the command of words of which `gen` is the first: clap reads them
abbrev pub gen_of : List (List ℕ) → Option Command
gen_of words = gen_for (words_give words)

-- the first word is this one
abbrev pub asks : List ℕ → List (List ℕ) → Bool
asks own [] = false
asks own (word ∷ names) = bytes_eq word own

-- clap reads the words, for which it takes memory
abbrev pub are_read_by_clap : List (List ℕ) → Bool
are_read_by_clap = asks (codes "gen")

-- two names of different files
abbrev pub pair_in : List (List ℕ) → Option PairFiles
pair_in (source ∷ target ∷ []) =
    if are_names (source ∷ target ∷ []) then Some (record { source = source; target = target }) else None
pair_in names = None

-- a number from the least to the most
abbrev pub number_between : (least most : ℕ) → List ℕ → Option ℕ
number_between least most word =
    number_in word >>= λ n. if nat_le least n && nat_le n most then Some n else None

-- the words after `sign` and `verify`
abbrev pub keyed_in : List (List ℕ) → Option KeyedFiles
keyed_in (key ∷ start ∷ names) = do
  first ← number_between 0 (2 ^ 62) start
  files ← pair_in names
  if are_names (key ∷ names) then Some (record { key = key; start = first; files = files }) else None
keyed_in names = None

-- the words after `bundle`
abbrev pub sized_in : List (List ℕ) → Option SizedFiles
sized_in (size ∷ names) = do
  most ← number_between 64 65535 size
  files ← pair_in names
  Some (record { size = most; files = files })
sized_in [] = None

-- the format of a word
abbrev pub format_of : List ℕ → Option Format
format_of word =
    if bytes_eq word (codes "json") then Some Json
    else if bytes_eq word (codes "pcap") then Some Pcap
    else None

-- the words after `export`
abbrev pub export_in : List (List ℕ) → Option ExportFiles
export_in (word ∷ messages ∷ []) = do
  format ← format_of word
  if is_name messages then Some (record { format = format; messages = messages }) else None
export_in names = None

-- the files of the words after `report`: 1 to 8 of managers
abbrev pub report_in : List (List ℕ) → Option ReportFiles
report_in [] = None
report_in (target ∷ sources) =
    if nat_le 1 (length sources) && nat_le (length sources) 8 then Some (record { target = target; sources = sources }) else None

-- the files of the words after `fold`
abbrev pub fold_in : List (List ℕ) → Option FoldFiles
fold_in (config ∷ journal ∷ messages ∷ memory ∷ []) =
    Some (record { from = record { config = config; journal = journal }; messages = messages; memory = memory })
fold_in names = None

-- the files of the words after `replay`
abbrev pub replay_in : List (List ℕ) → Option ReplayFiles
replay_in (config ∷ trace ∷ messages ∷ memory ∷ journal ∷ []) =
    Some (record { config = config; trace = trace; messages = messages; memory = memory; journal = journal })
replay_in names = None

-- the command of a word and at most three names
abbrev pub of_few : List ℕ → List (List ℕ) → Option Command
of_few word (messages ∷ []) = if bytes_eq word (codes "decode") then Some (decode messages) else None
of_few word (first ∷ second ∷ []) =
    if bytes_eq word (codes "migrate") then Some (migrate (record { source = first; target = second }))
    else if bytes_eq word (codes "unbundle") then Some (unbundle (record { source = first; target = second }))
    else if bytes_eq word (codes "recall") then Some (recall (record { source = first; target = second }))
    else if bytes_eq word (codes "explain") then Some (explain (record { config = first; journal = second }))
    else None
of_few word (first ∷ second ∷ third ∷ []) =
    if bytes_eq word (codes "check")
    then Some (check (record { from = record { config = first; journal = second }; messages = third }))
    else if bytes_eq word (codes "keep")
    then Some (keep (record { disk = first; from = record { config = second; journal = third } }))
    else None
of_few word names = None

-- the command of a word and of names of files, if these differ
unfoldable pub named : List ℕ → List (List ℕ) → Option Command
named word names =
    if not (are_names names) then None
    else if bytes_eq word (codes "fold") then option_map fold (fold_in names)
    else if bytes_eq word (codes "replay") then option_map replay (replay_in names)
    else if bytes_eq word (codes "report") then option_map report (report_in names)
    else of_few word names

-- the command of the words after the program's name, none where they are not in form
abbrev pub command_of : List (List ℕ) → Option Command
command_of [] = None
command_of (word ∷ names) =
    if bytes_eq word (codes "gen") then gen_of (word ∷ names)
    else if bytes_eq word (codes "sign") then option_map sign (keyed_in names)
    else if bytes_eq word (codes "verify") then option_map verify (keyed_in names)
    else if bytes_eq word (codes "bundle") then option_map bundle (sized_in names)
    else if bytes_eq word (codes "export") then option_map export (export_in names)
    else named word names

-- the files of a command, if it is a replay
abbrev pub replay_of : Option Command → Option ReplayFiles
replay_of (Some (replay files)) = Some files
replay_of command = None

-- and if it is a report
abbrev pub report_of : Option Command → Option ReportFiles
report_of (Some (report files)) = Some files
report_of command = None

-- the command, if it is one over a disk
abbrev pub disk_of : Option Command → Option Command
disk_of (Some (keep names)) = Some (keep names)
disk_of (Some (recall names)) = Some (recall names)
disk_of command = None

-- the command, if it is none of these: it starts no thread and needs no disk
abbrev pub plain_of : Option Command → Option Command
plain_of (Some (replay files)) = None
plain_of (Some (report files)) = None
plain_of (Some (keep names)) = None
plain_of (Some (recall names)) = None
plain_of command = command

-- how a command is listed: its word, the files that it reads, and those that it writes, each in their order
pub record Listing : Type 0 where
  pub word : List ℕ
  pub reads : List (List ℕ)
  pub writes : List (List ℕ)

abbrev listing : List ℕ → (reads writes : List (List ℕ)) → Listing
listing word reads writes = record { word = word; reads = reads; writes = writes }

-- the list of commands
abbrev pub listing_of : Command → Listing
listing_of (fold files) = listing (codes "fold") (files.from.config ∷ files.from.journal ∷ []) (files.messages ∷ files.memory ∷ [])
listing_of (check files) = listing (codes "check") (files.from.config ∷ files.from.journal ∷ files.messages ∷ []) []
listing_of (decode messages) = listing (codes "decode") (messages ∷ []) []
listing_of (gen wanted) = listing (codes "gen") [] (wanted.config ∷ wanted.trace ∷ wanted.journal ∷ [])
listing_of (migrate files) = listing (codes "migrate") (files.source ∷ []) (files.target ∷ [])
listing_of (replay files) = listing (codes "replay") (files.config ∷ files.trace ∷ []) (files.messages ∷ files.memory ∷ files.journal ∷ [])
listing_of (sign names) = listing (codes "sign") (names.key ∷ names.files.source ∷ []) (names.files.target ∷ [])
listing_of (verify names) = listing (codes "verify") (names.key ∷ names.files.source ∷ []) (names.files.target ∷ [])
listing_of (bundle names) = listing (codes "bundle") (names.files.source ∷ []) (names.files.target ∷ [])
listing_of (unbundle files) = listing (codes "unbundle") (files.source ∷ []) (files.target ∷ [])
listing_of (report files) = listing (codes "report") files.sources (files.target ∷ [])
listing_of (keep names) = listing (codes "keep") (names.from.config ∷ names.from.journal ∷ []) []
listing_of (recall names) = listing (codes "recall") [] (names.target ∷ [])
listing_of (explain names) = listing (codes "explain") (names.config ∷ names.journal ∷ []) []
listing_of (export names) = listing (codes "export") (names.messages ∷ []) []

-- the word of the command
abbrev pub word_of : Command → List ℕ
word_of command = (listing_of command).word

-- the files that the command reads, in the order in which it reads them
abbrev pub read_by : Command → List (List ℕ)
read_by command = (listing_of command).reads

-- the files that the command writes, in the order in which it writes them
abbrev pub written_by : Command → List (List ℕ)
written_by command = (listing_of command).writes
