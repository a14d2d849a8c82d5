-- The first piece of a text that is cut at a separator, and the number that it writes.
use Rattle.text_spec.proofs.Names.{◌≡◌, ℕ, Bool, ◌+◌, ◌==◌, true, false, ◌<◌, List, [], ◌∷◌, length, take, drop, get_or, None, sym, ap, ◌∙◌, arith, inl, inr, Option, option_map, is_ascii_digit, slice_split, position_or_len, list_all, ne_eqb, take_all, length-take, get_or-take, All-from_get_or, list_all_at, slice_split_first, slice_split_none, length-slice_split, fails_before_first, passes_at_first, position_or_len_is, a_number, first_as, refl, cases_lt, take_rest, nat_tests, eq-eqb}

-- what stands before the first separator is the first piece
pub first_piece : (c : ℕ) (text : List ℕ) (i : ℕ) → i < length text → ((k : ℕ) → k < i → (get_or text k 0 == c) ≡ false)
    → get_or text i 0 ≡ c → slice_split (λ b. b == c) text ≡ take i text ∷ slice_split (λ b. b == c) (drop (i + 1) text)
first_piece c text i inside before at =
    let first = position_or_len_is (λ b. b == c) text i 0 (omega arith) before (λ _. eq-eqb _ c at) in
    rw first at (slice_split_first (λ b. b == c) text 0 (omega (arith, first)))

-- a text without the separator is its only piece
pub whole_piece : (p : ℕ → Bool) (text : List ℕ) → ((k : ℕ) → k < length text → p (get_or text k 0) ≡ false) → slice_split p text ≡ text ∷ []
whole_piece p text free = slice_split_none p text (All-from_get_or (λ x. p x ≡ false) text 0 free)

-- a word with a byte that is no digit is no number
strange_word : (word : List ℕ) → list_all is_ascii_digit word ≡ false → a_number.reading word ≡ None
strange_word word strange = grind (arith, strange)

-- nor is a first piece that has one
pub no_number : (c : ℕ) (text : List ℕ) (i : ℕ) → i < length text → ((k : ℕ) → k < i → (get_or text k 0 == c) ≡ false) → (get_or text i 0 == c) ≡ false
    → is_ascii_digit (get_or text i 0) ≡ false → first_as a_number (slice_split (λ b. b == c) text) ≡ None
no_number c text i inside before apart strange =
    let end = position_or_len (λ b. b == c) text in
    let past : i < end = grind (arith, before end, apart, passes_at_first (λ b. b == c) text 0) in
    let first : (ws : List (List ℕ)) × (slice_split (λ b. b == c) text ≡ take end text ∷ ws) = elim (cases_lt end (length text)) [
      | inl ends ↦ (slice_split (λ b. b == c) (drop (end + 1) text), slice_split_first (λ b. b == c) text 0 ends)
      | inr far ↦ ([], rw (take_all end text far) (slice_split_none (λ b. b == c) text (λ k d below. fails_before_first (λ b. b == c) text k d (omega (arith, far)))))
    ] in
    let strange_there = list_all_at is_ascii_digit (take end text) i 0 (omega (arith, past, length-take end text)) (ap is_ascii_digit (get_or-take end text i 0 past) ∙ strange) in
    rw (first.1, strange_word (take end text) strange_there) refl

-- where a text is cut
pub ruleset cuts = (first_piece, whole_piece, take_rest, nat_tests)

-- a text has a piece
pub some_piece : (c : ℕ) (text : List ℕ) → (length (slice_split (λ b. b == c) text) == 0) ≡ false
some_piece c text = ne_eqb _ 0 (λ none. omega (arith, length-slice_split (λ b. b == c) text, none))
