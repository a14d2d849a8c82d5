-- The statuses and the texts of how a run ends.
-- Source: docs/COMMANDS.md.
use Rattle.std.specs.Prelude.{◌++◌, ◌∷◌}
use Rattle.cmd_files.specs.Names.{BadConfig, BadCounter, BadJournal, BadMessage, BadMessages, BadSource, BadTag, BadTrace, BadUnit, CannotRead, CannotWrite, ConfigFault, Differ, DiskStop, EmptyKey, Err, Instance, List, NoMemory, Ok, OnDisk, Refusal, Refused, Result, Signed, Stop, TooLarge, TooLong, [], codes, decimal, ℕ}
use Rattle.cmd_files.specs.declared.stop.DiskStop.TheVariants.{Failed, FailedAfter, Damaged, WornAfter}
use Rattle.ids_config.specs.declared.fault.ConfigPlace.{ConfigPlace}
use Rattle.ids_config.specs.declared.fault.ConfigPlace.TheVariants.{Top, Class, Event}
use Rattle.ids_frame.specs.declared.fault.FrameFault.{FrameFault}
use Rattle.ids_frame.specs.declared.fault.FrameFault.TheVariants.{Short, UnknownVersion, UnknownPart}

-- ---- the texts of refusals

-- the words for a place of the configuration
abbrev pub place_text : ConfigPlace → List ℕ
place_text Top = codes "top"
place_text (Class index) = codes "class " ++ decimal index
place_text (Event index) = codes "event " ++ decimal index

-- the line `bad config N at PLACE`
abbrev pub bad_config_text : ConfigFault → List ℕ
bad_config_text fault =
    codes "bad config " ++ (decimal fault.number
    ++ (codes " at " ++ (place_text fault.place ++ codes "\n")))

-- the line `bad journal line L: N`, or that of a trace, which begins with other words
abbrev bad_line_text : (words : List ℕ) (line number : ℕ) → List ℕ
bad_line_text words line number = words ++ (decimal line ++ (codes ": " ++ (decimal number ++ codes "\n")))

-- the word for a fault of a message
abbrev pub fault_word : FrameFault → List ℕ
fault_word Short = codes "short"
fault_word UnknownVersion = codes "version"
fault_word UnknownPart = codes "part"

-- the line `bad message at K: REASON`
abbrev pub bad_message_text : BadMessage → List ℕ
bad_message_text bad =
    codes "bad message at " ++ (decimal bad.at ++ (codes ": " ++ (fault_word bad.fault ++ codes "\n")))

-- the line `bad message in NAME at K: REASON`
abbrev pub bad_source_text : List ℕ → BadMessage → List ℕ
bad_source_text name bad =
    codes "bad message in " ++ (name ++ (codes " at " ++ (decimal bad.at ++ (codes ": " ++ (fault_word bad.fault ++ codes "\n")))))

-- a line of these words and a number
abbrev pub number_text : List ℕ → ℕ → List ℕ
number_text words number = words ++ (decimal number ++ codes "\n")

-- how a refusal is told, and which commands may meet it, by their words
pub record Row : Type 0 where
  pub status : ℕ
  pub text : List ℕ
  pub met_by : List (List ℕ)

abbrev row : ℕ → List ℕ → List (List ℕ) → Row
row status text met_by = record { status = status; text = text; met_by = met_by }

-- the commands over messages that are sealed or packed
abbrev sealing : List (List ℕ)
sealing = codes "sign" ∷ codes "verify" ∷ []

-- the commands that read a recording, and all that read a configuration
abbrev recording : List (List ℕ)
recording = codes "fold" ∷ codes "check" ∷ codes "keep" ∷ codes "explain" ∷ []

-- the table of refusals
abbrev pub row_of : Refusal (List ℕ) → Row
row_of (TooLong name) = row 4 (codes "too long " ++ (name ++ codes "\n")) (codes "decode" ∷ codes "export" ∷ codes "bundle" ∷ codes "unbundle" ∷ codes "report" ∷ codes "replay" ∷ codes "migrate" ∷ (sealing ++ recording))
row_of (BadConfig fault) = row 5 (bad_config_text fault) (codes "replay" ∷ codes "migrate" ∷ recording)
row_of (BadJournal line number) = row 6 (bad_line_text (codes "bad journal line ") line number) recording
row_of (BadTrace line number) = row 6 (bad_line_text (codes "bad trace line ") line number) (codes "replay" ∷ [])
row_of (Differ at) = row 9 (number_text (codes "differs at ") at) (codes "check" ∷ [])
row_of (BadMessages bad) = row 10 (bad_message_text bad) (codes "decode" ∷ codes "export" ∷ codes "bundle" ∷ sealing)
row_of (BadSource name bad) = row 10 (bad_source_text name bad) (codes "report" ∷ [])
row_of (Instance name) = row 11 (codes "instance " ++ (name ++ codes "\n")) (codes "report" ∷ [])
row_of EmptyKey = row 16 (codes "empty key\n") sealing
row_of (Signed at) = row 17 (number_text (codes "signed at ") at) (codes "sign" ∷ [])
row_of (BadTag at) = row 18 (number_text (codes "bad tag at ") at) (codes "verify" ∷ [])
row_of (BadCounter at) = row 19 (number_text (codes "bad counter at ") at) (codes "verify" ∷ [])
row_of (TooLarge at) = row 20 (number_text (codes "too large at ") at) (codes "bundle" ∷ [])
row_of (BadUnit at) = row 21 (number_text (codes "bad unit at ") at) (codes "unbundle" ∷ [])

-- ---- the texts of stops

-- the text of a stop on a disk
abbrev pub disk_text : DiskStop → List ℕ
disk_text Failed = codes "disk failed\n"
disk_text (FailedAfter saves) = number_text (codes "disk failed after ") saves
disk_text (Damaged slot) = number_text (codes "bad disk: slot ") slot
disk_text (WornAfter saves) = number_text (codes "worn after ") saves

-- its status
abbrev pub disk_status : DiskStop → ℕ
disk_status Failed = 13
disk_status (FailedAfter saves) = 13
disk_status (Damaged slot) = 14
disk_status (WornAfter saves) = 15

abbrev pub no_memory_text : List ℕ
no_memory_text = codes "no memory\n"

-- the text of a stop
abbrev pub stop_text : Stop (List ℕ) → List ℕ
stop_text (CannotRead name) = codes "cannot read " ++ (name ++ codes "\n")
stop_text (Refused refusal) = (row_of refusal).text
stop_text (OnDisk stop) = disk_text stop
stop_text CannotWrite = codes "cannot write\n"
stop_text NoMemory = no_memory_text

-- the status of a stop
abbrev pub stop_status : Stop (List ℕ) → ℕ
stop_status (CannotRead name) = 3
stop_status (Refused refusal) = (row_of refusal).status
stop_status (OnDisk stop) = disk_status stop
stop_status CannotWrite = 7
stop_status NoMemory = 8

-- the text of a command that did its work, with this text, or stopped
abbrev pub answer_text : Result (List ℕ) (Stop (List ℕ)) → List ℕ
answer_text (Ok said) = said
answer_text (Err reason) = stop_text reason

-- its status
abbrev pub answer_status : Result (List ℕ) (Stop (List ℕ)) → ℕ
answer_status (Ok said) = 0
answer_status (Err reason) = stop_status reason
