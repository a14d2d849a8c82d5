-- What files hold.
use Rattle.std.specs.Prelude.{if◌then◌else◌}
use Rattle.cmd_files.specs.Names.{CannotRead, Err, Files, List, None, Ok, Option, Refused, Result, Some, Stop, TooLong, length, nat_lt, ℕ}

-- the bytes of a file that may have so many; a file that is not there cannot be read
abbrev pub bytes_of : ℕ → List ℕ → Option (List ℕ) → Result (List ℕ) (Stop (List ℕ))
bytes_of limit name None = Err (CannotRead name)
bytes_of limit name (Some bytes) = if nat_lt limit (length bytes) then Err (Refused (TooLong name)) else Ok bytes

-- the bytes of the file of this name
abbrev pub file_of : ℕ → List ℕ → Files → Result (List ℕ) (Stop (List ℕ))
file_of limit name files = bytes_of limit name (files name)
