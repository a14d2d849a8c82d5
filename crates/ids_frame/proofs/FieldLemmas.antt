-- Reading the timestamp, the context and the signature of a message.
use Rattle.ids_frame.proofs.Names.{◌≡◌, ℕ, ◌-◌, ◌^◌, ◌<◌, ◌≤◌, List, [], ◌∷◌, ◌++◌, length, Some, refl, arith, w16, w32, w64, to_be_bytes, le-ltb, append-nil, Form, AreBytes, FitsContext, most_bytes, stamp_part, length_in, context_part, signature_part, number_at, common_steps}
use Rattle.ids_frame.specs.declared.context.Form.TheVariants as forms
use Rattle.ids_frame.specs.Reading.{stamp_at, length_at, context_at, signature_at}
use Rattle.ids_frame.proofs.PartLemmas.{IsPart, RunsOut, Tells, tells, told_part, made, part, parts_are_part}
use Rattle.ids_frame.proofs.NumberLemmas.{bytes_are_part, wide16, wide32, wide64, number_is_part}

-- a timestamp is a part
pub stamp_is_part : IsPart stamp_at (λ s. stamp_part (Some s)) (λ s. s.0 < 2 ^ 64)
unfolding stamp_at
stamp_is_part =
    parts_are_part (part (number_is_part w64 (2 ^ 64) wide64) (λ n. made (record { 0 = n }))) _ _
    (λ v can. record { text = refl; can = can.0 })
    (λ s lt. record { values = (s.0, tt); can = (lt, tt); is = refl })

-- ---- a context's length

-- a length's spelling
abbrev length_text : Form × ℕ → List ℕ
length_text n = length_in n.0 n.1

-- the form can say the length
abbrev LengthFits : Form × ℕ → Type 0
LengthFits n = n.1 ≤ most_bytes n.0

-- a number of four bytes of which the first is at least 128 spells a long length
long_text : (a : ℕ) (bytes : List ℕ) (n : ℕ) (rest : List ℕ) → 128 ≤ a → a ∷ bytes ≡ to_be_bytes w32 n ++ rest
    → to_be_bytes w32 n ≡ length_in forms.Long (n - 2 ^ 31)
long_text a bytes n rest le e = grind (arith, common_steps)

-- where the bytes of a long length run out, the length does
long_cut : (a : ℕ) (bytes : List ℕ) → 128 ≤ a → RunsOut (to_be_bytes w32) (λ n. n < 2 ^ 32) (a ∷ bytes) → RunsOut length_text LengthFits (a ∷ bytes)
long_cut a bytes le r = record {
  value = (forms.Long, r.value - 2 ^ 31);
  fits = omega (arith, r.fits);
  next = r.next;
  more = r.more;
  whole = grind (arith, common_steps, long_text a (bytes ++ r.next ∷ r.more) r.value [] le, append-nil);
}

-- what is read of a length
length_tells : (bytes : List ℕ) → AreBytes bytes → Tells length_text LengthFits bytes (length_at bytes)
unfolding length_at
length_tells [] fits = record { value = (forms.Short, 0); fits = omega arith; next = 0; more = []; whole = refl }
length_tells (a ∷ bytes) fits =
    let t = tells (number_is_part w32 (2 ^ 32) wide32) (a ∷ bytes) fits (number_at w32 (a ∷ bytes)) refl in
    grind (arith, common_steps, long_text, long_cut, t)

-- a length that is spelled so is read
length_again : (form : Form) (size : ℕ) (rest : List ℕ) → size ≤ most_bytes form
    → length_at (length_in form size ++ rest) ≡ Some ((form, size), rest)
unfolding length_at
length_again forms.Short size rest le = grind (arith, common_steps)
length_again forms.Long size rest le = grind (arith, common_steps, le-ltb, number_is_part, wide32)

-- a length is a part
length_is_part : IsPart length_at length_text LengthFits
length_is_part = told_part length_tells (λ x rest le. length_again x.0 x.1 rest le) ((forms.Short, 0), omega arith)

-- ---- a length, and so many bytes

-- a context is a part
pub context_is_part : IsPart context_at (λ c. context_part (Some c)) FitsContext
unfolding context_at
context_is_part =
    parts_are_part (part length_is_part (λ n. part (bytes_are_part n.1) (λ bytes. made (record { form = n.0; bytes = bytes })))) _ _
    (λ v can. grind (arith, common_steps, append-nil))
    (λ c fits. record { values = ((c.form, length c.bytes), (c.bytes, tt)); can = grind (arith, common_steps); is = refl })

-- a signature is a part
pub signature_is_part : IsPart signature_at (λ s. signature_part (Some s)) (λ s. (length s ≤ 65535) × AreBytes s)
unfolding signature_at
signature_is_part =
    parts_are_part (part (number_is_part w16 (2 ^ 16) wide16) (λ n. part (bytes_are_part n) made)) _ _
    (λ v can. grind (arith, common_steps, append-nil))
    (λ s fits. record { values = (length s, (s, tt)); can = grind (arith, common_steps); is = refl })
