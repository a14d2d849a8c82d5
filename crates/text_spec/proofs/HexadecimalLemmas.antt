-- Hexadecimal: the readings of a word against the text of some bytes, into a room and byte by byte.
use Rattle.text_spec.proofs.Names.{◌≡◌, take_all, ◌+◌, ◌*◌, ◌-◌, ◌/◌, ◌%◌, ◌<◌, ◌≤◌, ◌∷◌, ◌++◌, take_more, length-encode_with, decode_of-encode_lower, decode_of-odd, ℕ, zero, suc, true, false, inl, inr, List, [], append_assoc, length, slice_index, take, refl, sym, ap, ◌∙◌, arith, Some, None, is_in_range, list_all, agree_below_at, and_parts, or_cases, IsBytes, encode_lower, lower_digits, hex_in, is_lower_digit, some_hex, bytes_of, IsWritten, set, same_Some, bytes_eq, absent, false_from_ne_true, bytes_eq-Decides, common_steps, drop_split, encode_with-drop, encode_step, length-set, decode_pairs, encode_with, slice_range, take_more_set, drop}

-- the text of bytes is twice as long
pub length_hex : (bytes : List ℕ) → length (encode_lower bytes) ≡ 2 * length bytes
length_hex bytes = length-encode_with lower_digits bytes

-- ---- from the bytes to the text

-- the text of bytes has digits of lower case alone
pub lower_text : (bytes : List ℕ) → IsBytes bytes → list_all is_lower_digit (encode_lower bytes) ≡ true
unfolding encode_with
lower_text [] all = refl
lower_text (b ∷ bytes) all =
    let byte : b < 256 = all 0 in
    let digit : (d : ℕ) → d < 16 → is_lower_digit (slice_index lower_digits d) ≡ true = λ d small. agree_below_at (λ k. is_lower_digit (slice_index lower_digits k)) (λ _. true) 16 d refl small in
    rw (digit (b / 16) (omega arith), digit (b % 16) (omega arith)) (lower_text bytes (λ i. all (suc i)))

-- the text of some bytes is read as them
pub hex_in-encode_lower : (bytes : List ℕ) → IsBytes bytes → hex_in (encode_lower bytes) ≡ Some bytes
hex_in-encode_lower bytes all = rw (lower_text bytes all, decode_of-encode_lower bytes all) refl

-- it is not `-`
pub hex_not_absent : (bytes : List ℕ) → bytes_eq (encode_lower bytes) absent ≡ false
hex_not_absent bytes = false_from_ne_true _ (λ same. omega (arith, ap length ((bytes_eq-Decides (encode_lower bytes) absent).0 same), length_hex bytes))

-- the text of no bytes, and of bytes after bytes
pub encode_none : encode_lower [] ≡ []
unfolding encode_with
encode_none = refl

encode-append : (xs ys : List ℕ) → encode_lower (xs ++ ys) ≡ encode_lower xs ++ encode_lower ys
unfolding encode_with
encode-append [] ys = refl
encode-append (b ∷ xs) ys = rw (encode-append xs ys) refl

-- the text of what is left, of eight bytes and of those after them
pub encode_eight : (k : ℕ) (bytes : List ℕ) → encode_lower (drop (8 * k) bytes) ≡ encode_lower (slice_range bytes (8 * k) (8 * k + 8)) ++ encode_lower (drop (8 * (k + 1)) bytes)
encode_eight k bytes =
    let next : 8 * (k + 1) ≡ 8 * k + 8 = omega arith in
    rw next (ap encode_lower (drop_split bytes (8 * k) (8 * k + 8) (omega arith)) ∙ encode-append (slice_range bytes (8 * k) (8 * k + 8)) (drop (8 * k + 8) bytes))

-- how bytes are written, one after another
pub ruleset writings = (length_hex, encode_none, encode_eight, encode_with-drop, encode_step, length-set, common_steps)

-- ---- from the text to the bytes

-- a digit of lower case stands at its value
digit_stands : (c : ℕ) → is_lower_digit c ≡ true → (v : ℕ) × (v < 16) × (slice_index lower_digits v ≡ c)
digit_stands c is = elim (or_cases (is_in_range 48 57 c) (is_in_range 97 102 c) is) [
  | inl digit ↦ (c - 48, grind (arith, digit), grind (arith, digit))
  | inr letter ↦ (c - 87, grind (arith, letter), grind (arith, letter))
]

-- the word is the text of these bytes
pub record IsTextOf (word bytes : List ℕ) : Type 0 where
  pub are_bytes : IsBytes bytes
  pub text : encode_lower bytes ≡ word

-- digits of lower case in pairs are the text of some bytes
by_pairs : (word : List ℕ) → list_all is_lower_digit word ≡ true → length word % 2 ≡ 0 → (bytes : List ℕ) × IsTextOf word bytes
unfolding encode_with
by_pairs [] all even = ([], record { are_bytes = λ i. omega arith; text = refl })
by_pairs (c ∷ []) all even = cc even
by_pairs (c ∷ d ∷ word) all even =
    let digits : (is_lower_digit c ≡ true) × (is_lower_digit d ≡ true) × (list_all is_lower_digit word ≡ true) = grind (arith, all) in
    let high = digit_stands c digits.0 in
    let low = digit_stands d digits.1 in
    let rest = by_pairs word digits.2 (omega (arith, even)) in
    ((high.0 * 16 + low.0) ∷ rest.0, record { are_bytes = λ k. grind (arith, common_steps, high.1, low.1, rest.1.are_bytes (k - 1)); text = grind (arith, high.1, low.1, high.2, low.2, rest.1.text) })

-- a word that is the text of some bytes is read as them
pub hex_in-text : (word bytes : List ℕ) → IsTextOf word bytes → hex_in word ≡ Some bytes
hex_in-text word bytes is = rw (← is.text) (hex_in-encode_lower bytes is.are_bytes)

-- a word is the text of what it is read as
pub hex_in-some : (word bytes : List ℕ) → hex_in word ≡ Some bytes → IsTextOf word bytes
hex_in-some word bytes read =
    let all : list_all is_lower_digit word ≡ true = grind (arith, read) in
    let even : length word % 2 ≡ 0 = grind (arith, decode_of-odd word, read) in
    let some = by_pairs word all even in
    rw (same_Some _ bytes (sym (hex_in-text word some.0 some.1) ∙ read)) at some.1

-- there are half as many bytes as digits
pub length-hex_in : (word bytes : List ℕ) → hex_in word ≡ Some bytes → length word ≡ 2 * length bytes
length-hex_in word bytes read = rw (← (hex_in-some word bytes read).text) (length_hex bytes)

-- a byte more is decoded into a room
pub pair_more : (word room : List ℕ) (i b : ℕ) → i < length room → 2 * i + 1 < length word → IsWritten b (slice_index word (2 * i)) (slice_index word (2 * i + 1))
    → encode_lower (take i room) ≡ take (2 * i) word → encode_lower (take (i + 1) (set room i b)) ≡ take (2 * (i + 1)) word
unfolding encode_with
pair_more word room i b there inside is was =
    let two : 2 * (i + 1) ≡ 2 * i + 1 + 1 = omega arith in
    rw (take_more_set room i b there, encode-append (take i room) (b ∷ []), is.high, is.low, was, two, take_more word (2 * i + 1) 0 inside, take_more word (2 * i) 0 (omega arith)) (sym (append_assoc (take (2 * i) word) _ _))

-- a room that holds all bytes
pub room_read : (word room : List ℕ) (n : ℕ) → 2 * n ≡ length word → ((k : ℕ) → k < n → slice_index room k < 256) → encode_lower (take n room) ≡ take (2 * n) word → hex_in word ≡ Some (take n room)
room_read word room n all small text =
    hex_in-text word (take n room) (record { are_bytes = λ k. grind (arith, common_steps, small k); text = text ∙ take_all (2 * n) word (omega (arith, all)) })

-- how bytes are read into a room
pub ruleset rooms = (encode_none, pair_more, room_read, common_steps)

-- ---- a byte or more

-- some bytes are kept
pub some_hex_again : (word bytes : List ℕ) → 1 ≤ length bytes → hex_in word ≡ Some bytes → some_hex word ≡ Some bytes
some_hex_again word bytes some read = grind (arith, some, read)

-- a word that is read as some bytes is their text
pub some_hex_takes : (word bytes : List ℕ) → some_hex word ≡ Some bytes → IsTextOf word bytes × (1 ≤ length bytes)
some_hex_takes word bytes read = grind (arith, read, hex_in-some word bytes)

-- an empty word is not read
pub some_hex-empty : (word : List ℕ) → length word ≡ 0 → some_hex word ≡ None
unfolding decode_pairs
some_hex-empty [] empty = refl
some_hex-empty (b ∷ word) empty = absurd (omega arith)

-- digits of lower case in pairs are read
pub hex_in-pairs : (word : List ℕ) → list_all is_lower_digit word ≡ true → length word % 2 ≡ 0 → hex_in word ≡ Some (bytes_of word)
hex_in-pairs word all even = let some = by_pairs word all even in rw (hex_in-text word some.0 some.1) refl

-- which are some bytes, where there are digits
pub some_hex-pairs : (word : List ℕ) → list_all is_lower_digit word ≡ true → length word % 2 ≡ 0 → 0 < length word → some_hex word ≡ Some (bytes_of word)
some_hex-pairs word all even some =
    let read = hex_in-pairs word all even in
    some_hex_again word (bytes_of word) (omega (arith, length-hex_in word (bytes_of word) read)) read

-- how a word is read
pub ruleset readings = (some_hex-empty, some_hex-pairs, hex_in-pairs, length-hex_in, hex_in-encode_lower, hex_in-some)
