-- Bytes as numbers.
use Rattle.std.specs.Prelude.{ℕ, ◌<◌, List, All}

-- the number is that of a byte
abbrev pub IsByte : ℕ → Type 0
IsByte number = number < 256

-- each number is
abbrev pub AreBytes : List ℕ → Type 0
AreBytes numbers = All IsByte numbers
