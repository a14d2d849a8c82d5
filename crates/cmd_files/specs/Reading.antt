-- What is read and judged, each file before the next one is read: what it gives, and how a call ends that does it.
use Rattle.std.specs.Prelude.{◌≡◌, ◌⊎◌}
use Rattle.cmd_files.specs.Names.{BadConfig, Bor, CannotRead, CountsFault, Err, Files, IsTrue, List, NoMemory, Ok, Read, Refusal, Refused, Result, SameFiles, Shelved, Stop, TooLong, ℕ, ⊤}
use Rattle.config_json.specs.declared.fault.JsonFault.{JsonFault}
use Rattle.cmd_files.specs.Contents.{file_of}
use Rattle.cmd_files.specs.Plain.{plain_stop}
use Rattle.config_json.specs.declared.fault.JsonFault.TheVariants as faults

-- this is given; or what was read is refused; or the file of this name is read, of which so many bytes may be there, and
-- then what its bytes ask for
pub data Reading (A : Type 0) : Type 0 where
  gives : A → Reading A
  refuses : Refusal (List ℕ) → Reading A
  reads : (limit : ℕ) (name : List ℕ) → (List ℕ → Reading A) → Reading A

-- the bytes of a file
abbrev pub file : (limit : ℕ) (name : List ℕ) → Reading (List ℕ)
file limit name = reads limit name gives

-- the next step, where nothing was refused yet
infixl 10 ◌>>=◌
abbrev pub ◌>>=◌ : {A B : Type 0} → Reading A → (A → Reading B) → Reading B
(gives x) >>= f = f x
(refuses why) >>= f = refuses why
(reads limit name next) >>= f = reads limit name (λ bytes. next bytes >>= f)

-- what was found in what was read, or the refusal of its fault
abbrev pub if_found : {A F : Type 0} → (F → Refusal (List ℕ)) → Result A F → Reading A
if_found why (Ok x) = gives x
if_found why (Err fault) = refuses (why fault)

-- what bytes ask for that were read, or why they were not
abbrev pub if_read : {A : Type 0} → Result (List ℕ) (Stop (List ℕ)) → (List ℕ → Result A (Stop (List ℕ))) → Result A (Stop (List ℕ))
if_read (Ok bytes) next = next bytes
if_read (Err reason) next = Err reason

-- what these files give
abbrev pub over : {A : Type 0} → Reading A → Files → Result A (Stop (List ℕ))
over (gives x) files = Ok x
over (refuses why) files = Err (Refused why)
over (reads limit name next) files = if_read (file_of limit name files) (λ bytes. over (next bytes) files)

-- ---- how reading ends

-- a file is not read: its read failed, or it is too long
abbrev pub IsUnread : {A : Type 0} → (limit : ℕ) (name : List ℕ) → Result A (Stop (List ℕ)) → Shelved → Type 0
IsUnread limit name answer old =
    (answer ≡ Err (CannotRead name))
    ⊎ ((answer ≡ Err (Refused (TooLong name))) × (IsTrue old.tells → file_of limit name old.files ≡ Err (Refused (TooLong name))))

-- reading comes to this answer over the files of a shelf, where they are told; each file that was read before served
abbrev pub Comes : {A : Type 0} → Reading A → Result A (Stop (List ℕ)) → Shelved → Type 0
Comes (gives x) answer old = answer ≡ Ok x
Comes (refuses why) answer old = answer ≡ Err (Refused why)
Comes (reads limit name next) answer old =
    IsUnread limit name answer old
    ⊎ ((bytes : List ℕ) × (IsTrue old.tells → file_of limit name old.files ≡ Ok bytes) × Comes (next bytes) answer old)

-- it came to this answer, and a fault was counted where a read failed; or memory was wanted
abbrev pub ReadsTo : {A : Type 0} → Reading A → Result A (Stop (List ℕ)) → Shelved → Shelved → Type 0
ReadsTo reading (Ok x) old new = (new.faults ≡ old.faults) × Comes reading (Ok x) old
ReadsTo reading (Err (CannotRead name)) old new =
    CountsFault old.faults new.faults Read name × Comes reading (Err (CannotRead name)) old
ReadsTo reading (Err (Refused why)) old new = (new.faults ≡ old.faults) × Comes reading (Err (Refused why)) old
ReadsTo reading (Err NoMemory) old new = ⊤
ReadsTo reading (Err other) old new = ⊥

-- what a call does that reads: it changes no file, and answers so
pub record Reads {A : Type 0} (reading : Reading A) (answer : Result A (Stop (List ℕ))) (old new : Shelved) : Type 0 where
  pub tells : new.tells ≡ old.tells
  pub same : IsTrue old.tells → SameFiles old.files new.files
  pub ends : ReadsTo reading answer old new

-- what a call answers that judges what was read; or memory was wanted
abbrev pub Judges : {A : Type 0} → Reading A → Result A (Stop (List ℕ)) → Type 0
Judges found (Ok x) = found ≡ gives x
Judges found (Err (Refused why)) = found ≡ refuses why
Judges found (Err NoMemory) = ⊤
Judges found (Err other) = ⊥

-- ---- what a call answers, as definitions have it

-- what was given, seen so, or why it was not, with the names of files as their bytes
abbrev pub seen_as : {A X : Type 0} → (X → A) → Result X (Stop (Bor (List ℕ))) → Result A (Stop (List ℕ))
seen_as view (Ok x) = Ok (view x)
seen_as view (Err reason) = Err (plain_stop reason)

-- why a command stops whose configuration was not read so
abbrev pub stop_of_config : {N : Type 0} → JsonFault → Stop N
stop_of_config (faults.Config fault) = Refused (BadConfig fault)
stop_of_config faults.NoMemory = NoMemory
