-- A journal's turns tell of held-back events what is due exactly where their history is causal.
use Rattle.cmd_steps.proofs.Names.{Err, IsJournal, List, None, Ok, Option, Parts, Result, Some, Told, Turn, [], ap, append-nil, append_assoc, arith, cases_eq, eq-eqb, flat_map, inl, inr, length, length-append, length-map, ne_eqb, refl, reverse, reverse_onto, sym, turn_told, ℕ, ◌++◌, ◌+◌, ◌↔◌, ◌∙◌, ◌∷◌, ◌≡◌, ◌≢◌, ◌≤◌, flat_map-append}
use Rattle.std.proofs.lemmas.Option.{none-some, same_Some}
use Rattle.std.proofs.lemmas.List.{reverse-reverse}
use Rattle.chain_spec.specs.Chain.{IsCausal, handed, handed_on}
use Rattle.text_spec.specs.Lines.{BadLine}
use Rattle.text_spec.proofs.JournalLaws.{journal_is_told}
use Rattle.cmd_spec.specs.FoldedJournal.{◌>>=◌, due_to, folded_in, held_back_line, unless_held_back}
use Rattle.law_agreement.specs.Causal.{IsFirstUncausal}
use mathlib.Core.List.{reverse_aux}

module _ (config : Parts) where
  -- the numbers that these turns hand on, after those before them, which have the newest first
  abbrev handed_behind : List Turn → List Turn → List ℕ
  handed_behind before [] = []
  handed_behind before (turn ∷ turns) = handed_on config (turn ∷ before) ∷ handed_behind (turn ∷ before) turns

  handed_are : (before turns : List Turn)
      → reverse (handed config (reverse_aux turns before)) ≡ reverse (handed config before) ++ handed_behind before turns
  handed_are before [] = sym (append-nil _)
  handed_are before (turn ∷ turns) =
      grind (arith, append_assoc, reverse_onto (handed config before) (handed_on config (turn ∷ before)) [], handed_are (turn ∷ before) turns)

  pub causal_before : (turns before : List Turn) → IsCausal config (reverse_aux turns before) → IsCausal config before
  causal_before [] before is = is
  causal_before (turn ∷ turns) before is = (causal_before turns (turn ∷ before) is).1

  -- no turn tells another number than is due where all are causal, after causal turns before
  none_behind : (n : ℕ) (turns before : List Turn) → IsCausal config before
      → (held_back_line n (handed_on config before ∷ handed_behind before turns) turns ≡ None) ↔ IsCausal config (reverse_aux turns before)
  none_behind n [] before was = (λ none. was, λ is. refl)
  none_behind n (turn ∷ turns) before was =
      grind (arith, none_behind (n + (1 + length turn.entries)) turns (turn ∷ before), causal_before turns (turn ∷ before), was)

  -- the first that tells another number than is due stands on the line that is found, where the first of these stands on line n
  first_behind : (n line : ℕ) (turns before : List Turn) → n ≡ length (flat_map turn_told (reverse before)) + 1 → IsCausal config before
      → held_back_line n (handed_on config before ∷ handed_behind before turns) turns ≡ Some line
      → IsFirstUncausal config (reverse_aux before turns) line
  first_behind n line [] before place was some = absurd (none-some line some)
  first_behind n line (turn ∷ turns) before place was some =
      elim (cases_eq turn.head.limited (handed_on config before)) [
        | inl same ↦
            let lines = flat_map-append turn_told (reverse before) (turn ∷ []) in
            first_behind (n + (1 + length turn.entries)) line turns (turn ∷ before)
            (grind (arith, length-append, length-map, append-nil, reverse_onto before turn [], place, lines)) (same, was)
            (rw (eq-eqb _ _ same) at some)
        | inr other ↦
            let at : line ≡ length (flat_map turn_told (reverse before)) + 1 =
            omega (arith, same_Some n line (rw (ne_eqb _ _ other) at some), place) in
            let causal : IsCausal config (reverse (reverse before)) = rw reverse-reverse was in
            let differs : turn.head.limited ≢ handed_on config (reverse (reverse before)) = rw reverse-reverse other in
            search (reverse_onto before turn turns, causal, differs, at)
      ]

  line_of_first : (n : ℕ) (front : List Turn) (turn : Turn) (after before : List Turn) → IsCausal config (reverse_aux front before)
      → turn.head.limited ≢ handed_on config (reverse_aux front before)
      → held_back_line n (handed_on config before ∷ handed_behind before (front ++ turn ∷ after)) (front ++ turn ∷ after)
      ≡ Some (length (flat_map turn_told front) + n)
  line_of_first n [] turn after before causal other = grind (arith, ne_eqb turn.head.limited (handed_on config before) other)
  line_of_first n (one ∷ front) turn after before causal other =
      let rest = line_of_first (n + (1 + length one.entries)) front turn after (one ∷ before) causal other in
      grind (arith, length-append, length-map, (causal_before front (one ∷ before) causal).0, rest)

  -- ---- from the first turn on

  due_are : (turns : List Turn)
      → held_back_line 1 (due_to config turns) turns ≡ held_back_line 1 (handed_on config [] ∷ handed_behind [] turns) turns
  due_are turns = ap (λ (ns : List ℕ). held_back_line 1 (0 ∷ ns) turns) (handed_are [] turns)

  pub none_held_back : (turns : List Turn) → (held_back_line 1 (due_to config turns) turns ≡ None) ↔ IsCausal config (reverse turns)
  none_held_back turns = rw (due_are turns) (none_behind 1 turns [] tt)

  pub held_back_first : (turns : List Turn) (line : ℕ) → (held_back_line 1 (due_to config turns) turns ≡ Some line) ↔ IsFirstUncausal config turns line
  held_back_first turns line = (
    λ some. first_behind 1 line turns [] refl tt (sym (due_are turns) ∙ some),
    λ first. due_are turns ∙ rw (first.are, first.place) (line_of_first 1 first.before first.turn first.after [] first.causal first.other),
  )

-- the journal of a causal history is folded as it
pub folds_as : (config : Parts) (text : List ℕ) (told : Told) → length config.events ≤ 256
    → IsJournal config text told → IsCausal config (reverse told.turns) → folded_in config text ≡ Ok told
folds_as config text told few journal causal =
    rw (journal_is_told config few text told journal, (none_held_back config told.turns).1 causal) refl

-- what is folded was read, and no turn tells another number than is due
pub folded_was : (found : Told → Option ℕ) (read : Result Told BadLine) (told : Told) → (read >>= λ t. unless_held_back t (found t)) ≡ Ok told
    → (read ≡ Ok told) × (found told ≡ None)
folded_was found read told folded = grind (arith, folded)

pub told_line : (told : Told) (line : ℕ) (found : Option ℕ) → unless_held_back told found ≡ Err (record { line = line; fault = 8 }) → found ≡ Some line
told_line told line found refused = grind (arith, refused)
