-- What an answer of `decode` tells of the bytes, and that a slice holds bytes.
use Rattle.ids_frame.proofs.Names.{◌≡◌, ℕ, ◌≤◌, get_or, List, length, take, drop, Ok, Err, arith, AreBytes, MessageParts, spelling, BeginsWith, Result, Fits, w8, CauseOf, decoded, FrameFault, common_steps, get_or_default}
use Rattle.ids_frame.proofs.MessageLemmas.{told}

-- the bytes begin with this message, and so many of them are its spelling
pub record Front (bytes : List ℕ) (m : MessageParts) (size : ℕ) : Type 0 where
  pub few : size ≤ length bytes
  pub spelled : take size bytes ≡ spelling m
  pub begins : BeginsWith bytes m (drop size bytes)

-- what an answer of `decode` says of the bytes
abbrev pub Tells : List ℕ → Result (MessageParts × ℕ) FrameFault → Type 0
Tells bytes (Ok x) = Front bytes x.0 x.1
Tells bytes (Err fault) = CauseOf fault bytes

-- each answer of `decode` says so
pub decode_tells : (bytes : List ℕ) (read : Result (MessageParts × ℕ) FrameFault) → AreBytes bytes → read ≡ decoded bytes → Tells bytes read
decode_tells bytes read fit e = grind (arith, common_steps, told bytes fit)

-- what a slice holds are bytes
pub are_bytes : (bytes : List ℕ) → ((i : ℕ) → Fits w8 (get_or bytes i 0)) → AreBytes bytes
are_bytes bytes fits k d within = omega (arith, fits k, get_or_default bytes k d 0 within)
