-- Tags: HMAC with SHA-256, RFC 2104; and what holds of the fields of a `Key`.
use Rattle.std.specs.Prelude.{ℕ, ◌-◌, ◌≤◌, List, ◌++◌, length, map, replicate, bit_xor}
use Rattle.sha2.specs.Sha256.{sha256}
use Rattle.sha2.specs.Hashers.{Holds256}
use Rattle.frame_auth.specs.declared.key.Key.TheInside.{Inside}

-- so many bytes make a key
abbrev pub IsKeyLength : ℕ → Type 0
IsKeyLength count = (1 ≤ count) × (count ≤ 64)

-- a key, filled with zeros to the 64 bytes that SHA-256 takes at once
abbrev pub filled : List ℕ → List ℕ
filled bytes = bytes ++ replicate (64 - length bytes) 0

-- each byte, combined with the mask by exclusive or
abbrev pub masked : ℕ → List ℕ → List ℕ
masked mask bytes = map (λ byte. bit_xor byte mask) bytes

-- the tag of these bytes under a key that is filled
abbrev pub hmac : List ℕ → List ℕ → List ℕ
hmac key bytes = sha256 (masked 0x5c key ++ sha256 (masked 0x36 key ++ bytes))

-- the two digests have taken in the key, masked for the bytes and for their digest
pub record IsTakenIn (key : Inside) : Type 0 where
  pub inner : Holds256 key.inner (masked 0x36 key.block)
  pub outer : Holds256 key.outer (masked 0x5c key.block)
