-- The text of lines, one after another.
use Rattle.journal.proofs.Names.{◌≡◌, ℕ, List, [], ◌∷◌, ◌++◌, length, map, refl, ap, ◌∙◌, append_assoc, arith, decimal, flat_map, join_with_byte, map-append, Turn, point, ended_line, Entry, Loss, Line, enters, loses, line_for, fields_of, turn_told, flat_map-push, text_of-map, lines_text, turn_text, turns_text, losses_text, pointed, journal_text, told, nat_tests, common_steps}

-- the entries of a turn, and one more
pub entries-push : (front : List (Entry (List ℕ))) (entry : Entry (List ℕ)) → lines_text (map enters (front ++ entry ∷ [])) ≡ lines_text (map enters front) ++ ended_line (fields_of (enters entry))
entries-push front entry = rw map-append (text_of-map line_for (map enters front) (enters entry ∷ []))

-- the entries of a turn in other holders, and one more
pub held-push : {B : Type 0} (f : B → Entry (List ℕ)) (front : List B) (entry : B)
    → lines_text (map enters (map f (front ++ entry ∷ []))) ≡ lines_text (map enters (map f front)) ++ ended_line (fields_of (enters (f entry)))
held-push f front entry = rw map-append (entries-push (map f front) (f entry))

-- the turns, and one more
pub turns-push : (front : List Turn) (turn : Turn) → lines_text (flat_map turn_told (front ++ turn ∷ [])) ≡ lines_text (flat_map turn_told front) ++ lines_text (turn_told turn)
turns-push front turn = rw (flat_map-push turn_told front turn) (text_of-map line_for (flat_map turn_told front) (turn_told turn))

-- the losses after lines, and one more
pub losses-push : (lines : List Line) (front : List Loss) (loss : Loss) → lines_text (lines ++ map loses (front ++ loss ∷ [])) ≡ lines_text (lines ++ map loses front) ++ ended_line (fields_of (loses loss))
losses-push lines front loss =
    rw (map-append loses front, ← append_assoc lines (map loses front)) (text_of-map line_for (lines ++ map loses front) (loses loss ∷ []))

-- numbers with points between them, and one more
pub claims-push : (front : List ℕ) (n : ℕ) → join_with_byte point (map decimal (front ++ n ∷ [])) ≡ join_with_byte point (map decimal front) ++ pointed (length front) n
claims-push [] n = refl
claims-push (m ∷ []) n = refl
claims-push (m ∷ k ∷ front) n = grind (arith, nat_tests, append_assoc, claims-push (k ∷ front) n)

-- how lines are printed, one after another
pub ruleset pushes = (common_steps, entries-push, turns-push, losses-push)

-- turns are printed one by one, and a journal as its turns and its losses
turns_by_turn : (turns : List Turn) → lines_text (flat_map turn_told turns) ≡ turns_text turns
turns_by_turn [] = refl
turns_by_turn (turn ∷ turns) = text_of-map line_for (turn_told turn) (flat_map turn_told turns) ∙ ap (λ text. turn_text turn ++ text) (turns_by_turn turns)

pub text_by_turns : (turns : List Turn) (losses : List Loss) → journal_text (told turns losses) ≡ turns_text turns ++ losses_text losses
text_by_turns turns losses = text_of-map line_for (flat_map turn_told turns) (map loses losses) ∙ ap (λ text. text ++ losses_text losses) (turns_by_turn turns)

pub ruleset by_turns = (text_by_turns, flat_map-push)
