-- Words and lines: the tests that their bytes pass, and the readings of a line and of a text against
-- their texts.
use Rattle.text_spec.proofs.Names.{◌≡◌, ◌+◌, ◌<◌, ◌==◌, ◌∷◌, ◌++◌, take_more, AllPass-from_list_all, list_all-from_AllPass, ℕ, Bool, true, false, List, [], length, map, take, get_or, refl, sym, ap, ◌∙◌, append_assoc, arith, All, list_all, AllByRecursion, slice_split, join_with_byte, eq-eqb, ne_eqb, both_ways, list_all-append, slice_split_none, slice_split_at, length-take-le, map-append, line_feed, text_of, recursion_from_All, All-from_recursion, All-weaker}

-- all bytes of each of these words pass a test
abbrev pub Pass : (ℕ → Bool) → List (List ℕ) → Type 0
Pass p words = AllByRecursion (λ word. list_all p word ≡ true) words

-- words of which each passes
pub all_pass : (p : ℕ → Bool) (Is : List ℕ → Type 0) (words : List (List ℕ)) → ((word : List ℕ) → Is word → list_all p word ≡ true) → AllByRecursion Is words → Pass p words
all_pass p Is words each are = recursion_from_All _ words (All-weaker Is (λ word. list_all p word ≡ true) each words (All-from_recursion Is words are))

-- what holds of each that passes a test holds of all, where all pass
pub all_from : {A : Type 0} (p : A → Bool) (Is : A → Type 0) (xs : List A) → ((x : A) → p x ≡ true → Is x) → list_all p xs ≡ true → AllByRecursion Is xs
all_from p Is xs each all = recursion_from_All Is xs (λ k d within. each _ (AllPass-from_list_all p xs all k d within))

-- bytes that pass a test pass one that asks less
pub weaker : (p q : ℕ → Bool) (bytes : List ℕ) → ((b : ℕ) → p b ≡ true → q b ≡ true) → list_all p bytes ≡ true → list_all q bytes ≡ true
weaker p q bytes less all = list_all-from_AllPass q bytes (λ k d within. less _ (AllPass-from_list_all p bytes all k d within))

-- a byte that does not pass is not among those that do
not_among : (p : ℕ → Bool) (c : ℕ) (bytes : List ℕ) → p c ≡ false → list_all p bytes ≡ true → All (λ b. (b == c) ≡ false) bytes
not_among p c bytes out all = λ k d within.
    ne_eqb _ c (λ e. both_ways (p c) out (ap p (sym e) ∙ AllPass-from_list_all p bytes all k d within))

-- pieces joined by a byte that does not pass, and cut at it again
pub split_joined : (p : ℕ → Bool) (c : ℕ) (piece : List ℕ) (pieces : List (List ℕ)) → p c ≡ false → Pass p (piece ∷ pieces)
    → slice_split (λ b. b == c) (join_with_byte c (piece ∷ pieces)) ≡ piece ∷ pieces
split_joined p c piece [] out all = slice_split_none _ piece (not_among p c piece out all.0)
split_joined p c piece (next ∷ pieces) out all =
    rw (slice_split_at (λ b. b == c) piece c (join_with_byte c (next ∷ pieces)) (not_among p c piece out all.0) (eq-eqb c c refl), split_joined p c next pieces out all.1) refl

-- pieces joined by a byte that passes
pub join_passes : (p : ℕ → Bool) (c : ℕ) (pieces : List (List ℕ)) → p c ≡ true → Pass p pieces → list_all p (join_with_byte c pieces) ≡ true
join_passes p c [] is all = refl
join_passes p c (piece ∷ []) is all = all.0
join_passes p c (piece ∷ next ∷ pieces) is all =
    rw (list_all-append p piece, all.0, is) (join_passes p c (next ∷ pieces) is all.1)

-- the pieces of a text of lines: the lines, and an empty one
pub split_text : (p : ℕ → Bool) (lines : List (List ℕ)) → p line_feed ≡ false → Pass p lines → slice_split (λ b. b == line_feed) (text_of lines) ≡ lines ++ [] ∷ []
split_text p [] out all = refl
split_text p (line ∷ lines) out all = rw (slice_split_at (λ b. b == line_feed) line line_feed (text_of lines) (not_among p line_feed line out all.0) refl, split_text p lines out all.1) refl

-- lines and an empty piece, joined by line feeds
pub join_ended : (lines : List (List ℕ)) → join_with_byte line_feed (lines ++ [] ∷ []) ≡ text_of lines
join_ended (line ∷ next ∷ lines) = ap (λ text. line ++ line_feed ∷ text) (join_ended (next ∷ lines))
join_ended lines = refl

-- the text of some lines and more
pub text_of-append : (lines more : List (List ℕ)) → text_of (lines ++ more) ≡ text_of lines ++ text_of more
text_of-append [] more = refl
text_of-append (line ∷ lines) more = rw (text_of-append lines more) (sym (append_assoc line (line_feed ∷ text_of lines) (text_of more)))

-- ---- the text of one thing after another

-- a loop that appends it took one step more: piece i x is the text of x at place i
pub one_more : {A : Type 0} (text : List A → List ℕ) (piece : ℕ → A → List ℕ) → ((front : List A) (x : A) → text (front ++ x ∷ []) ≡ text front ++ piece (length front) x)
    → (before now next : List ℕ) (xs : List A) (i : ℕ) (x d : A) → i < length xs → x ≡ get_or xs i d → now ≡ before ++ text (take i xs) → next ≡ now ++ piece i x → next ≡ before ++ text (take (i + 1) xs)
one_more text piece adds before now next xs i x d within is was step =
    rw (step, was, take_more xs i d within, ← is, adds (take i xs) x, length-take-le i xs (omega arith)) (append_assoc before (text (take i xs)) (piece i x))

-- the text of lines after lines
pub text_of-map : {Line : Type 0} (line : Line → List ℕ) (lines more : List Line) → text_of (map line (lines ++ more)) ≡ text_of (map line lines) ++ text_of (map line more)
text_of-map line lines more = ap text_of (map-append line lines more) ∙ text_of-append (map line lines) (map line more)
