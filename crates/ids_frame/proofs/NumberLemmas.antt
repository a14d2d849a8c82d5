-- Reading bytes and numbers.
use Rattle.ids_frame.proofs.Names.{◌≡◌, ℕ, suc, ◌-◌, ◌^◌, ◌<◌, List, [], ◌∷◌, ◌++◌, length, get_or, replicate, refl, sym, ◌∙◌, arith, Width, w16, w32, w64, byte_len, from_be_bytes, to_be_bytes, append-nil, take_at, drop_at, take-append-drop, length-append, length-take, length-replicate, get_or_past, All-append, All-head, All-take, All-replicate, All-from_recursion, IsByte, AreBytes, bytes_at, byte_at, number_at, common_steps}
use Rattle.std.proofs.lemmas.Nat.{be_bytes_2, be_bytes_4, be_bytes_8, from_be_bytes-to_be_bytes_2, from_be_bytes-to_be_bytes_4, from_be_bytes-to_be_bytes_8}
use Rattle.ids_frame.proofs.PartLemmas.{IsPart, RunsOut, Tells, told_part, made, part, parts_are_part}

-- ---- bytes

-- bytes, and zeros past their end
each_byte : (bytes : List ℕ) → AreBytes bytes → (i : ℕ) → get_or bytes i 0 < 256
each_byte bytes fits i = grind (arith, get_or_past bytes i 0, fits i 0)

-- a byte is a part
pub byte_is_part : IsPart byte_at (λ b. b ∷ []) (λ b. b < 256)
byte_is_part = told_part byte_tells (λ b rest lt. refl) (0, omega arith)
  where
    byte_tells : (bytes : List ℕ) → AreBytes bytes → Tells (λ b. b ∷ []) IsByte bytes (byte_at bytes)
    byte_tells [] fits = record { value = 0; fits = omega arith; next = 0; more = []; whole = refl }
    byte_tells (b ∷ bytes) fits = (refl, All-head IsByte b bytes fits)

-- so many bytes
pub record AreMany (count : ℕ) (bytes : List ℕ) : Type 0 where
  pub len : length bytes ≡ count
  pub are_bytes : AreBytes bytes

-- zeros complete bytes that are too few
zeros_complete : (count : ℕ) (bytes : List ℕ) → AreBytes bytes → length bytes < count → RunsOut (λ x. x) (AreMany count) bytes
zeros_complete count bytes fits lt =
    let more = count - suc (length bytes) in
    record {
      value = bytes ++ replicate (suc more) 0;
      fits = record {
        len = grind (arith, common_steps, length-append, length-replicate);
        are_bytes = All-append IsByte bytes _ fits (All-replicate IsByte (suc more) 0 (omega arith));
      };
      next = 0;
      more = replicate more 0;
      whole = refl;
    }

-- so many bytes are a part
pub bytes_are_part : (count : ℕ) → IsPart (bytes_at count) (λ x. x) (AreMany count)
bytes_are_part count = told_part
    (λ bytes fits. grind (arith, common_steps, zeros_complete, take-append-drop, length-take, All-take))
    (λ x rest many. grind (arith, common_steps, length-append, take_at, drop_at))
    (replicate count 0, record { len = length-replicate {A = ℕ} count 0; are_bytes = All-replicate IsByte count 0 (omega arith) })

-- ---- numbers

-- the numbers of this width, and their bytes
pub record IsWide (w : Width) (limit : ℕ) : Type 0 where
  pub many : (n : ℕ) → AreMany (byte_len w) (to_be_bytes w n)
  pub back : (bytes : List ℕ) → AreMany (byte_len w) bytes → to_be_bytes w (from_be_bytes w bytes) ≡ bytes
  pub again : (n : ℕ) → n < limit → from_be_bytes w (to_be_bytes w n) ≡ n
  pub below : (bytes : List ℕ) → AreBytes bytes → from_be_bytes w bytes < limit

-- numbers of two bytes are read back
pub wide16 : IsWide w16 (2 ^ 16)
wide16 = grind (arith, common_steps, All-from_recursion, be_bytes_2, each_byte, from_be_bytes-to_be_bytes_2)

-- the same of four bytes
pub wide32 : IsWide w32 (2 ^ 32)
wide32 = grind (arith, common_steps, All-from_recursion, be_bytes_4, each_byte, from_be_bytes-to_be_bytes_4)

-- and of eight
pub wide64 : IsWide w64 (2 ^ 64)
wide64 = record {
  many = λ n. record { len = refl; are_bytes = All-from_recursion IsByte (to_be_bytes w64 n) (omega arith) };
  back = λ bytes many. be_bytes_8 bytes _ many.len (each_byte bytes many.are_bytes) refl;
  again = λ n lt. from_be_bytes-to_be_bytes_8 n lt;
  below = λ bytes fits. let b = each_byte bytes fits in omega (arith, b 0, b 1, b 2, b 3, b 4, b 5, b 6, b 7);
}

-- a number is a part
pub number_is_part : (w : Width) (limit : ℕ) → IsWide w limit → IsPart (number_at w) (to_be_bytes w) (λ n. n < limit)
number_is_part w limit wide =
    parts_are_part (part (bytes_are_part (byte_len w)) (λ bytes. made (from_be_bytes w bytes))) (to_be_bytes w) (λ n. n < limit)
    (λ v can. record { text = append-nil v.0 ∙ sym (wide.back v.0 can.0); can = wide.below v.0 can.0.are_bytes })
    (λ n lt. record { values = (to_be_bytes w n, tt); can = (wide.many n, tt); is = wide.again n lt })
