-- Bytes that are written to a buffer.
use Rattle.std.specs.Prelude.{◌≡◌, ℕ, ◌≤◌, ◌<◌, Bool, true, false, List, ◌++◌, length, drop}

-- the bytes stand at the front of the buffer, all of them, and after them is what was there
pub record IsWritten (bytes old new : List ℕ) : Type 0 where
  pub fits : length bytes ≤ length old
  pub is : new ≡ bytes ++ drop (length bytes) old

-- they are written, or are longer than the buffer, which is not changed
abbrev pub Puts : List ℕ → List ℕ → Bool → List ℕ → Type 0
Puts bytes old true new = IsWritten bytes old new
Puts bytes old false new = (length old < length bytes) × (new ≡ old)
