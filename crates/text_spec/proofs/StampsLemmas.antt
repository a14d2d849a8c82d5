-- Timestamps: the reading of a word against the text of an optional timestamp.
use Rattle.text_spec.proofs.Names.{◌≡◌, ◌^◌, ◌<◌, ◌==◌, ℕ, zero, suc, inl, inr, List, length, refl, sym, arith, Option, Some, None, IfSome, bytes_eq, w64, to_be_bytes, from_be_bytes, bytes_high_first, eqb-true, same_Some, cond_some, option_and_then_some, bytes_eq-Decides, cases_Bool, IsBytes, Stamp, hex_in, absent, stamp_text, stamp_of_bytes, stamp_in}
use Rattle.std.proofs.lemmas.Nat.{from_be_bytes-to_be_bytes_8, be_bytes_8}
use Rattle.text_spec.proofs.HexadecimalLemmas.{hex_in-encode_lower, hex_in-some, hex_not_absent}

-- the bytes of a number
pub IsBytes-high_first : (k n : ℕ) → IsBytes (bytes_high_first k n)
IsBytes-high_first zero n i = omega arith
IsBytes-high_first (suc k) n zero = grind arith
IsBytes-high_first (suc k) n (suc i) = IsBytes-high_first k n i

-- the text of a timestamp is read as it
pub stamp_again : (stamp : Option Stamp) → IfSome stamp (λ s. s.0 < 2 ^ 64) → stamp_in (stamp_text stamp) ≡ Some stamp
stamp_again None small = refl
stamp_again (Some stamp) small =
    let bytes = to_be_bytes w64 stamp.0 in
    rw (hex_not_absent bytes, hex_in-encode_lower bytes (IsBytes-high_first 8 stamp.0), from_be_bytes-to_be_bytes_8 stamp.0 small) refl

-- a word that is read as an optional timestamp is its text, and has 64 bits
pub stamp_takes : (word : List ℕ) (stamp : Option Stamp) → stamp_in word ≡ Some stamp → IfSome stamp (λ s. s.0 < 2 ^ 64) × (word ≡ stamp_text stamp)
stamp_takes word stamp read = elim (cases_Bool (bytes_eq word absent)) [
  | inl same ↦ rw (← same_Some None stamp (rw same at read)) (tt, (bytes_eq-Decides word absent).0 same)
  | inr other ↦ option_and_then_some stamp_of_bytes (hex_in word) stamp (rw other at read) (λ bytes is made.
      let parts = cond_some (length bytes == 8) (Some (record { 0 = from_be_bytes w64 bytes })) stamp made in
      let text = hex_in-some word bytes is in
      let all = text.are_bytes in
      let same = be_bytes_8 bytes (from_be_bytes w64 bytes) (eqb-true (length bytes) 8 parts.0) all refl in
      rw (← parts.1) (omega (arith, all 0, all 1, all 2, all 3, all 4, all 5, all 6, all 7), rw same (sym text.text)))
]
