-- A word that is a number.
use Rattle.cmd_words.proofs.Names.{◌≡◌, ℕ, false, List, [], ◌∷◌, ◌≤◌, refl, ap, ◌∙◌, arith, ◌&&◌, ◌++◌, ◌^◌, Option, None, Some, length, list_all, join_with_byte, ◌<◌, ◌==◌, nat_le, option_map, if◌then◌else◌, number_between}
use Rattle.std.proofs.lemmas.List.Splits.{join_with_byte-slice_split, length-slice_split}
use Rattle.std.specs.Char.{is_ascii_digit}
use Rattle.text_spec.specs.{a_number, first_as, capped, number_in, pieces_of}
use Rattle.text_spec.specs.Maybe.{◌>>=◌, ended}

-- a space is no digit
no_digits : (front behind : List ℕ) → list_all is_ascii_digit (front ++ 32 ∷ behind) ≡ false
no_digits [] behind = refl
no_digits (x ∷ xs) behind = grind (arith, no_digits xs behind)

no_number : (front behind : List ℕ) → number_in (front ++ 32 ∷ behind) ≡ None
no_number [] behind = refl
no_number (x ∷ xs) behind = rw (no_digits (x ∷ xs) behind) refl

-- the one piece of a text is the text
abbrev pub alone : Option (ℕ × List (List ℕ)) → Option ℕ
alone x = x >>= λ (y : ℕ × List (List ℕ)). ended y.0 y.1

pieces_alone : (pieces : List (List ℕ)) → 0 < length pieces
    → alone (first_as a_number pieces) ≡ option_map capped (number_in (join_with_byte 32 pieces))
pieces_alone [] some = absurd (omega arith)
pieces_alone (piece ∷ []) some = grind arith
pieces_alone (piece ∷ next ∷ pieces) some = rw (no_number piece (join_with_byte 32 (next ∷ pieces))) (grind arith)

read_alone : (word : List ℕ) → alone (first_as a_number (pieces_of 32 word)) ≡ option_map capped (number_in word)
read_alone word =
    pieces_alone (pieces_of 32 word) (omega (arith, length-slice_split (λ b. b == 32) word))
    ∙ ap (λ (w : List ℕ). option_map capped (number_in w)) (join_with_byte-slice_split 32 word)

-- what is found at the front of a word's pieces, where no other piece stands after it
pub found_alone : (word bytes : List ℕ) (pieces : List (List ℕ)) (found : Option (ℕ × List (List ℕ))) (result : Option ℕ)
    → found ≡ first_as a_number pieces → pieces ≡ pieces_of 32 bytes → bytes ≡ word → result ≡ alone found
    → result ≡ option_map capped (number_in word)
found_alone word bytes pieces found result is are same ends =
    rw (ends, is, are, same) (read_alone word)

-- a number that is told as the greatest one is out of any range
pub ranged : (least most : ℕ) (word : List ℕ) → most ≤ 2 ^ 62
    → (option_map capped (number_in word) >>= λ n. if nat_le least n && nat_le n most then Some n else None) ≡ number_between least most word
ranged least most word small =
    let within = λ (n : ℕ). if nat_le least n && nat_le n most then Some n else None in
    elim (number_in word) as (λ x. (option_map capped x >>= within) ≡ (x >>= within)) [ None ↦ refl | Some n ↦ grind (arith, small) ]
