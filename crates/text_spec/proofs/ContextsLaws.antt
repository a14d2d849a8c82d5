-- The fields of the texts keep the laws of a field.
use Rattle.text_spec.proofs.Names.{◌≡◌, ◌<◌, ◌≤◌, ◌==◌, ◌∷◌, ◌^◌, if◌then◌else◌, is_ascii_digit, digits_value, any_bytes, bytes_in, bytes_word, is_number, capped, ℕ, zero, suc, true, false, inl, inr, List, [], length, map, refl, sym, ap, subst, ◌∙◌, arith, Option, Some, None, IfSome, Stamp, option_map, decimal, bytes_eq, ⊤, w64, to_be_bytes, AllByRecursion, slice_split, join_with_byte, list_all, and_parts, cond-true, eqb-true, join_with_byte-slice_split, same_Some, none-some, cond_some, bytes_eq-Decides, cases_Bool, IsBytes, encode_lower, Carried, Absent, Kept, Missing, colon, point, mark, kept_fields, kept_places, context_word, IsContextWord, IsContext, IsExactContext, kept_in, numbers_in, claims_in, context_in, a_context, the, a_number, a_stamp, a_mode, hex_bytes, words_of_fields, AreWritten, is_lower_digit, some_hex, mode_name, mode_named, all_modes, stamp_in, stamp_text, absent, rules, nat_tests, Off, Mode, find}
use Rattle.text_spec.proofs.FieldsLaws.{Told, IsReading, Lawful, AreLawful, in_word, lawful, simple_lawful, AreReading, reads, fields_are, fields_again, fields_pass}
use Rattle.text_spec.proofs.FrontLemmas.{bind_some, mapped_some}
use Rattle.text_spec.proofs.HexadecimalLemmas.{hex_in-encode_lower, hex_not_absent, lower_text, some_hex_takes, some_hex_again}
use Rattle.text_spec.proofs.NumbersLemmas.{is_number_is, decimal-told, number_again}
use Rattle.text_spec.proofs.StampsLemmas.{IsBytes-high_first, stamp_takes, stamp_again}
use Rattle.text_spec.proofs.WordsLemmas.{Pass, all_pass, weaker, split_joined, join_passes}

-- ---- letters, modes and numbers

pub the_lawful : (letter : List ℕ) → list_all in_word letter ≡ true → Lawful (the letter)
the_lawful letter passes = simple_lawful (λ _. ⊤) (λ _. letter) (λ word. if bytes_eq word letter then Some tt else None)
    (λ word x read. (tt, (bytes_eq-Decides word letter).0 (cond_some (bytes_eq word letter) tt x read).0))
    (λ x held. cond-true _ (Some tt) None ((bytes_eq-Decides letter letter).1 refl))
    (λ x held. passes)

-- a name that was read is the mode's
pub named_takes : (modes : List Mode) (word : List ℕ) (mode : Mode) → find (λ m. bytes_eq word (mode_name m)) modes ≡ Some mode → word ≡ mode_name mode
named_takes [] word mode read = absurd (none-some mode read)
named_takes (one ∷ modes) word mode read = grind (arith, bytes_eq-Decides word (mode_name one), named_takes modes word mode, read)

-- a mode is read from its name, which is a word
pub mode_again : (mode : Mode) → (mode_named (mode_name mode) ≡ Some mode) × (list_all in_word (mode_name mode) ≡ true)
mode_again Off = (refl, refl)
mode_again mode = (refl, refl)

pub mode_lawful : Lawful a_mode
mode_lawful = simple_lawful (λ _. ⊤) mode_name mode_named
    (λ word mode read. (tt, named_takes all_modes word mode read)) (λ mode held. (mode_again mode).0) (λ mode held. (mode_again mode).1)

-- the digits of a number are digits of hexadecimal
number_lower : (word : List ℕ) → is_number word ≡ true → list_all is_lower_digit word ≡ true
number_lower word is = weaker is_ascii_digit is_lower_digit word (λ b digit. grind (arith, digit)) ((is_number_is word).0 is).0

-- which are bytes that words have
lower_passes : (word : List ℕ) → list_all is_lower_digit word ≡ true → list_all in_word word ≡ true
lower_passes word all = weaker is_lower_digit in_word word (λ b digit. grind (arith, digit)) all

pub number_lawful : Lawful a_number
number_lawful = lawful a_number
    (λ word n read. record { written = grind (arith, read); held = tt; takes = decimal-told word n read })
    (λ word is none. none-some (capped (digits_value 10 word)) (sym none ∙ rw is refl))
    (λ n held exact. let same : capped n ≡ n = omega (arith, exact) in rw (number_again n (omega (arith, exact))) (ap Some same))
    (λ word is. lower_passes word (number_lower word is))

-- ---- timestamps and bytes

-- the text of an optional timestamp is a word
stamp_passes : (stamp : Option Stamp) → list_all in_word (stamp_text stamp) ≡ true
stamp_passes None = refl
stamp_passes (Some stamp) = lower_passes (stamp_text (Some stamp)) (lower_text (to_be_bytes w64 stamp.0) (IsBytes-high_first 8 stamp.0))

pub stamp_lawful : Lawful a_stamp
stamp_lawful = simple_lawful (λ stamp. IfSome stamp (λ s. s.0 < 2 ^ 64)) stamp_text stamp_in stamp_takes stamp_again (λ stamp held. stamp_passes stamp)

bytes_lawful : Lawful hex_bytes
bytes_lawful = simple_lawful (λ bytes. IsBytes bytes × (1 ≤ length bytes)) encode_lower some_hex
    (λ word bytes read. let is = some_hex_takes word bytes read in ((is.0.are_bytes, is.1), sym is.0.text))
    (λ bytes held. some_hex_again (encode_lower bytes) bytes held.1 (hex_in-encode_lower bytes held.0))
    (λ bytes held. lower_passes (encode_lower bytes) (lower_text bytes held.0))

any_takes : (word bytes : List ℕ) → bytes_in word ≡ Some bytes → IsBytes bytes × (word ≡ bytes_word bytes)
any_takes word [] read = (λ k. omega arith, grind (arith, bytes_eq-Decides word absent, some_hex_takes word [], read))
any_takes word (byte ∷ bytes) read = let is = some_hex_takes word (byte ∷ bytes) (grind (arith, read)) in (is.0.are_bytes, sym is.0.text)

any_again : (bytes : List ℕ) → IsBytes bytes → (bytes_in (bytes_word bytes) ≡ Some bytes) × (list_all in_word (bytes_word bytes) ≡ true)
any_again [] held = (refl, refl)
any_again (byte ∷ bytes) held =
    let all = byte ∷ bytes in
    (rw (hex_not_absent all) (some_hex_again (encode_lower all) all (omega arith) (hex_in-encode_lower all held)), lower_passes (encode_lower all) (lower_text all held))

pub any_lawful : Lawful any_bytes
any_lawful = simple_lawful IsBytes bytes_word bytes_in any_takes (λ bytes held. (any_again bytes held).0) (λ bytes held. (any_again bytes held).1)

-- ---- a kept context

kept_lawful : AreLawful kept_places
kept_lawful = (number_lawful, (number_lawful, (bytes_lawful, tt)))

-- joined pieces, which have digits of hexadecimal alone, are cut again
kept_cut : (pieces : List (List ℕ)) → AreWritten kept_places pieces → context_in (join_with_byte colon pieces) ≡ kept_in pieces
kept_cut ((digit ∷ digits) ∷ claim ∷ hex ∷ []) is =
    let bytes = is.1.1.0 in
    let first = number_lower (digit ∷ digits) is.0 in
    let all : Pass is_lower_digit ((digit ∷ digits) ∷ claim ∷ hex ∷ []) = (first, (number_lower claim is.1.0, (rw bytes.2 (lower_text bytes.0 bytes.1.0), tt))) in
    let is = (and_parts (is_lower_digit digit) _ first).0 in
    let apart : ((digit == mark) ≡ false) × ((digit == 45) ≡ false) = grind (arith, nat_tests, is) in
    rw (apart.0, apart.1) (ap kept_in (split_joined is_lower_digit colon (digit ∷ digits) (claim ∷ hex ∷ []) refl all))
kept_cut pieces is = absurd (grind (arith, is))

-- ---- the numbers of a missing context

-- the pieces are these numbers, at most so many
pub record AreNumbers (most : ℕ) (pieces : List (List ℕ)) (numbers : List ℕ) : Type 0 where
  pub written : AllByRecursion a_number.Writes pieces
  pub few : length pieces ≤ most
  pub as_many : length numbers ≡ length pieces
  pub takes : AllByRecursion a_number.Exact numbers → pieces ≡ map decimal numbers

pub numbers_take : (most : ℕ) (pieces : List (List ℕ)) (numbers : List ℕ) → numbers_in most pieces ≡ Some numbers → AreNumbers most pieces numbers
numbers_take most [] numbers read =
    subst (AreNumbers most []) (same_Some [] numbers read) (record { written = tt; few = omega arith; as_many = refl; takes = λ exact. refl })
numbers_take zero (piece ∷ pieces) numbers read = absurd (none-some numbers read)
numbers_take (suc most) (piece ∷ pieces) numbers read =
    let first = bind_some (a_number.reading piece) (λ n. option_map (λ ns. n ∷ ns) (numbers_in most pieces)) numbers read in
    let rest = mapped_some (λ ns. first.0 ∷ ns) (numbers_in most pieces) numbers first.2 in
    let told : Told a_number piece first.0 = subst (IsReading a_number piece) first.1 (number_lawful.is piece) in
    let more = numbers_take most pieces rest.0 rest.1 in
    subst (AreNumbers (suc most) (piece ∷ pieces)) rest.2 (grind (arith, told, more))

pub numbers_again : (most : ℕ) (numbers : List ℕ) → AllByRecursion a_number.Exact numbers → length numbers ≤ most → numbers_in most (map decimal numbers) ≡ Some numbers
numbers_again most [] exact few = refl
numbers_again zero (n ∷ numbers) exact few = absurd (omega arith)
numbers_again (suc most) (n ∷ numbers) exact few =
    rw (number_lawful.again n tt exact.0, numbers_again most numbers exact.1 (omega arith)) refl

numbers_read : (most : ℕ) (pieces : List (List ℕ)) → AllByRecursion a_number.Writes pieces → length pieces ≤ most → numbers_in most pieces ≡ Some (map (λ word. capped (digits_value 10 word)) pieces)
numbers_read most [] are few = refl
numbers_read zero (piece ∷ pieces) are few = absurd (omega arith)
numbers_read (suc most) (piece ∷ pieces) are few = rw (are.0, numbers_read most pieces are.1 (omega arith)) refl

claims_are : (word numbers : List ℕ) → claims_in word ≡ Some numbers → (pieces : List (List ℕ)) × AreNumbers 4 pieces numbers × (word ≡ join_with_byte point pieces)
claims_are [] numbers read = ([], numbers_take 4 [] numbers read, refl)
claims_are (b ∷ word) numbers read = (slice_split (λ c. c == point) (b ∷ word), numbers_take 4 _ numbers read, sym (join_with_byte-slice_split point (b ∷ word)))

claims_take : (word numbers : List ℕ) → claims_in word ≡ Some numbers → Told a_context (mark ∷ word) (Missing numbers)
claims_take word numbers read =
    let are = claims_are word numbers read in
    record {
      written = inr (inr (are.0, are.1.written, are.1.few, ap (λ w. mark ∷ w) are.2));
      held = omega (arith, are.1.few, are.1.as_many);
      takes = λ exact. ap (λ w. mark ∷ w) (are.2 ∙ ap (join_with_byte point) (are.1.takes exact));
    }

-- joined numbers, which have digits of hexadecimal alone, are cut again
claims_cut : (pieces : List (List ℕ)) → AllByRecursion a_number.Writes pieces → claims_in (join_with_byte point pieces) ≡ numbers_in 4 pieces
claims_cut [] are = refl
claims_cut ([] ∷ pieces) are = cc are.0
claims_cut ((digit ∷ digits) ∷ []) are = ap (numbers_in 4) (split_joined is_lower_digit point (digit ∷ digits) [] refl (all_pass _ a_number.Writes ((digit ∷ digits) ∷ []) number_lower are))
claims_cut ((digit ∷ digits) ∷ pieces) are = ap (numbers_in 4) (split_joined is_lower_digit point (digit ∷ digits) pieces refl (all_pass _ a_number.Writes ((digit ∷ digits) ∷ pieces) number_lower are))

-- ---- a context

context_takes : (word : List ℕ) (context : Carried (List ℕ)) → context_in word ≡ Some context → Told a_context word context
context_takes [] context read = absurd (none-some context read)
context_takes (first ∷ rest) context read = elim (cases_Bool (first == mark)) [
  | inl missing ↦
      let from = mapped_some Missing (claims_in rest) context (rw missing at read) in
      subst (λ c. Told a_context (c ∷ rest) context) (sym (eqb-true first mark missing)) (subst (Told a_context (mark ∷ rest)) from.2 (claims_take rest from.0 from.1))
  | inr other ↦ elim (cases_Bool (bytes_eq (first ∷ rest) absent)) [
    | inl none ↦
        let is = (bytes_eq-Decides (first ∷ rest) absent).0 none in
        subst (Told a_context (first ∷ rest)) (same_Some Absent context (rw (other, none) at read)) (record { written = inl is; held = tt; takes = λ exact. is })
    | inr neither ↦
        let word = first ∷ rest in
        let pieces = slice_split (λ b. b == colon) word in
        let all = reads kept_places Kept pieces context kept_lawful (rw (other, neither) at read) in
        let joined = sym (join_with_byte-slice_split colon word) in
        subst (Told a_context word) all.made (record { written = inr (inl (pieces, all.written, joined)); held = all.shown.held; takes = λ exact. joined ∙ ap (join_with_byte colon) (all.shown.are exact) })
  ]
]

context_again : (context : Carried (List ℕ)) → IsContext context → IsExactContext context → context_in (context_word context) ≡ Some context
context_again Absent held exact = refl
context_again (Kept class claim bytes) held exact =
    let words = words_of_fields (kept_fields class claim bytes) in
    let again = fields_again kept_places Kept (class, (claim, (bytes, tt))) kept_lawful held exact in
    kept_cut words (reads kept_places Kept words _ kept_lawful again).written ∙ again
context_again (Missing numbers) held exact =
    let again = numbers_again 4 numbers exact held in
    ap (option_map Missing) (claims_cut (map decimal numbers) (numbers_take 4 (map decimal numbers) numbers again).written ∙ again)

context_reads : (word : List ℕ) → IsContextWord word → context_in word ≡ None → ⊥
context_reads word (inl is) none = none-some Absent (sym none ∙ ap context_in is)
context_reads word (inr (inl three)) none =
    subst (AreReading kept_places Kept three.0) (sym (ap context_in three.2 ∙ kept_cut three.0 three.1) ∙ none) (fields_are _ kept_places Kept three.0 kept_lawful) three.1
context_reads word (inr (inr missing)) none =
    none-some _ (sym none ∙ ap context_in missing.3 ∙ ap (option_map Missing) (claims_cut missing.0 missing.1 ∙ numbers_read 4 missing.0 missing.1 missing.2))

context_passes : (word : List ℕ) → IsContextWord word → list_all in_word word ≡ true
context_passes word (inl none) = ap (list_all in_word) none
context_passes word (inr (inl three)) = rw three.2 (join_passes in_word colon three.0 refl (fields_pass kept_places three.0 kept_lawful three.1))
context_passes word (inr (inr missing)) = rw missing.3 (join_passes in_word point missing.0 refl (all_pass in_word a_number.Writes missing.0 number_lawful.passes missing.1))

pub context_lawful : Lawful a_context
context_lawful = lawful a_context context_takes context_reads context_again context_passes

-- the fields that a form may have
pub ruleset lawfuls = (number_lawful, stamp_lawful, mode_lawful, any_lawful, context_lawful, the_lawful, rules)
