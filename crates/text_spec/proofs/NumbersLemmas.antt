-- Numbers: the reading of a word against the text of a number.
use Rattle.text_spec.proofs.Names.{◌≡◌, ℕ, ◌+◌, ◌-◌, ◌*◌, ◌/◌, ◌%◌, ◌^◌, ◌<◌, ◌≤◌, min, true, List, [], ◌∷◌, length, take, get_or, refl, sym, append_assoc, ◌++◌, arith, rules, Some, option_map, decimal, is_ascii_digit, list_all, digits_value, length-append, is_number, number_in, capped, greatest_told, cond_some, nat_tests, Decides}
use Rattle.std.proofs.lemmas.Fmt.{digits_decimal, digits_value-decimal, decimal-digits_value, first_decimal, decimal_nonempty, decimal_digit, decimal_step, length-decimal-le_wide}
use Rattle.std.proofs.lemmas.Int.Digits.{digits_value_more}
use Rattle.std.proofs.lemmas.Str.{digit_value_digit}
use Rattle.std.proofs.lemmas.Str.Parse.{IsNumeralModel, numerals_by_value}

-- a word of digits
abbrev pub Digits : List ℕ → Type 0
Digits ds = list_all is_ascii_digit ds ≡ true

-- the words of digits, and their values, in the words of std
pub own_digits : IsNumeralModel Digits (digits_value 10)
own_digits = numerals_by_value Digits (search rules)

-- one more digit
pub capped_more : (ds : List ℕ) (i v : ℕ) → is_ascii_digit (get_or ds i 0) ≡ true → i < length ds
    → v ≡ capped (digits_value 10 (take i ds))
    → min (min (v * 10) greatest_told + (get_or ds i 0 - 48)) greatest_told ≡ capped (digits_value 10 (take (i + 1) ds))
capped_more ds i v is inside was =
    let digit = digit_value_digit (get_or ds i 0) (grind (arith, is)) in
    omega (arith, digits_value_more 10 ds i inside, digit, was)

-- a word is a number where it is digits, and nothing follows a zero that stands first
pub is_number_is : (ds : List ℕ) → Decides (is_number ds) (Digits ds × (0 < length ds) × (get_or ds 0 0 ≡ 48 → length ds ≡ 1))
is_number_is ds = (λ h. grind (arith, nat_tests, h), λ h. grind (arith, nat_tests, h.0, h.1, h.2))

-- the text of a number is read as it
pub number_again : (n : ℕ) → n < 2 ^ 64 → number_in (decimal n) ≡ Some n
number_again n small =
    let first : get_or (decimal n) 0 0 ≡ 48 → length (decimal n) ≡ 1 = λ e. grind (arith, decimal_digit 0, first_decimal n, e) in
    rw ((is_number_is (decimal n)).1 (digits_decimal own_digits n small, decimal_nonempty n small, first), digits_value-decimal own_digits n small) refl

-- a word that is read as a number is the number's text
pub number_takes : (word : List ℕ) (n : ℕ) → number_in word ≡ Some n → n < 2 ^ 64
    → word ≡ decimal n
number_takes word n read small =
    let is = cond_some (is_number word) (digits_value 10 word) n read in
    let parts = (is_number_is word).0 is.0 in
    rw (← is.1) (sym (decimal-digits_value own_digits word parts.0 parts.1 parts.2 (omega (arith, is.1))))

-- a word that is told as a number below the greatest is the number's text
pub decimal-told : (word : List ℕ) (n : ℕ) → option_map capped (number_in word) ≡ Some n
    → n < greatest_told
    → word ≡ decimal n
decimal-told word n told small = grind (arith, number_takes word n, told)

-- ---- digits that are written one by one

-- a number has at most twenty digits
pub few_digits : (n : ℕ) → n < 2 ^ 64 → length (decimal n) ≤ 20
few_digits n small = length-decimal-le_wide 20 n (omega arith) (omega arith) (omega arith)

-- a number of two digits
pub decimal_two : (n : ℕ) → 10 ≤ n → n < 100 → decimal n ≡ (48 + n / 10) ∷ (48 + n % 10) ∷ []
decimal_two n many few = rw (decimal_step n many (omega arith), decimal_digit (n / 10) (omega arith)) refl

-- the two last digits of a number follow those of its hundredth
pub decimal_pair : (n : ℕ) → 100 ≤ n → n < 2 ^ 64
    → decimal n ≡ decimal (n / 100) ++ (48 + n % 100 / 10) ∷ (48 + n % 100 % 10) ∷ []
decimal_pair n many small = grind (arith, append_assoc, decimal_step n, decimal_step (n / 10))

-- the four last digits of a number follow those of its ten thousandth
pub decimal_four : (n : ℕ) → 10000 ≤ n → n < 2 ^ 64
    → decimal n ≡ decimal (n / 10000) ++ (48 + n % 10000 / 100 / 10) ∷ (48 + n % 10000 / 100 % 10) ∷ (48 + n % 100 / 10) ∷ (48 + n % 100 % 10) ∷ []
decimal_four n many small = grind (arith, append_assoc, decimal_pair n, decimal_pair (n / 100))

-- how a number is written
pub ruleset written = (append_assoc, length-append, few_digits, decimal_digit, decimal_two, decimal_pair, decimal_four)
