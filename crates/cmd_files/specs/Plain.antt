-- Ends of commands with the names of files as their bytes.
use Rattle.cmd_files.specs.Names.{BadConfig, BadCounter, BadJournal, BadMessages, BadSource, BadTag, BadTrace, BadUnit, Bor, CannotRead, CannotWrite, Differ, EmptyKey, Err, Global, Instance, List, NoMemory, Ok, OnDisk, Refusal, Refused, Result, Signed, Stop, TooLarge, TooLong, Vec, ℕ}

-- a refusal so
abbrev pub plain_refusal : Refusal (Bor (List ℕ)) → Refusal (List ℕ)
plain_refusal (TooLong name) = TooLong name.now
plain_refusal (BadConfig fault) = BadConfig fault
plain_refusal (BadJournal line number) = BadJournal line number
plain_refusal (BadTrace line number) = BadTrace line number
plain_refusal (Differ at) = Differ at
plain_refusal (BadMessages bad) = BadMessages bad
plain_refusal (BadSource name bad) = BadSource name.now bad
plain_refusal (Instance name) = Instance name.now
plain_refusal EmptyKey = EmptyKey
plain_refusal (Signed at) = Signed at
plain_refusal (BadTag at) = BadTag at
plain_refusal (BadCounter at) = BadCounter at
plain_refusal (TooLarge at) = TooLarge at
plain_refusal (BadUnit at) = BadUnit at

-- a stop
abbrev pub plain_stop : Stop (Bor (List ℕ)) → Stop (List ℕ)
plain_stop (CannotRead name) = CannotRead name.now
plain_stop (Refused refusal) = Refused (plain_refusal refusal)
plain_stop (OnDisk stop) = OnDisk stop
plain_stop CannotWrite = CannotWrite
plain_stop NoMemory = NoMemory

-- the end of a command, with its text
abbrev pub plain_end : Result (Vec ℕ Global) (Stop (Bor (List ℕ))) → Result (List ℕ) (Stop (List ℕ))
plain_end (Ok said) = Ok said.items
plain_end (Err reason) = Err (plain_stop reason)
