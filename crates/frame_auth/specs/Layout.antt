-- One message, copied with its seal or without.
use Rattle.std.specs.Prelude.{◌≡◌, ℕ, ◌+◌, ◌-◌, ◌≤◌, List, [], ◌∷◌, ◌++◌, length, take}
use Rattle.ids_frame.specs.{MessageParts, spelling}
use Rattle.frame_auth.specs.Sealing.{IsPlain, seal_of}

-- a plain message stands in one form before what is left of the input, and is added to the output in another
pub record Moves (from to : MessageParts → MessageParts) (rest behind old new : List ℕ) : Type 0 where
  pub message : MessageParts
  pub is_plain : IsPlain message
  pub read : rest ≡ spelling (from message) ++ behind
  pub written : new ≡ old ++ spelling (to message)

-- the bytes begin with one to which the bit of the signature part can be added
abbrev pub CanMark : List ℕ → Type 0
CanMark [] = ⊥
CanMark (first ∷ rest) = first ≤ 251

-- the spelling with that bit in its first byte
abbrev pub marked : List ℕ → List ℕ
marked [] = []
marked (first ∷ rest) = (first + 4) ∷ rest

-- the spelling of the sealed message: a signature part of 40 bytes stands after it
abbrev pub sealed_bytes : (key : List ℕ) (counter : ℕ) → List ℕ → List ℕ
sealed_bytes key counter plain = marked plain ++ 0 ∷ 40 ∷ seal_of key counter plain

-- the bytes begin with one that has the bit, and have 42 more
abbrev pub CanUnmark : List ℕ → Type 0
CanUnmark [] = ⊥
CanUnmark (first ∷ rest) = (4 ≤ first) × (42 ≤ length rest)

-- the spelling without that bit and without the last 42 bytes
abbrev pub unmarked : List ℕ → List ℕ
unmarked [] = []
unmarked (first ∷ rest) = (first - 4) ∷ take (length rest - 42) rest
