-- One line of a trace: its reading against its own text, both ways.
use Rattle.text_spec.proofs.Names.{◌≡◌, ◌∙◌, ◌∷◌, length-map, reports, changes, sets, TraceLine, opens, calls, closes, number_fields, trace_fields, ℕ, List, [], length, map, refl, subst, arith, Option, Some, None, option_map, codes, decimal, AllByRecursion, a_number, the, words_of_fields, AreHeld, AreExact, told_in_one, numbers_in, or_else, first_as, asked_report_form, asked_state_form, asked_mode_form, round_end_form, trace_forms, opening_in, trace_told_by}
use Rattle.text_spec.proofs.FrontLemmas.{bind_some, mapped_some}
use Rattle.text_spec.proofs.ContextsLaws.{lawfuls, the_lawful, number_lawful, numbers_again, numbers_take}
use Rattle.text_spec.proofs.FieldsLaws.{AreForms, IsLine, IsReading, IsShown, IsTold, Told, are_line, first_form, forms_are, forms_line, in_word}
use Rattle.text_spec.proofs.WordsLemmas.{all_pass}

-- ---- the forms

are_forms : AreForms trace_fields trace_forms
are_forms = search lawfuls depth 40

-- ---- a line that opens a round

-- the fields of numbers
pub record AreNumberFields (ticks : List ℕ) : Type 1 where
  pub held : AreHeld (number_fields ticks)
  pub words : words_of_fields (number_fields ticks) ≡ map decimal ticks
  pub exact : AreExact (number_fields ticks) → AllByRecursion a_number.Exact ticks
  pub told : AllByRecursion a_number.Exact ticks → AreExact (number_fields ticks)

pub numbers_are : (ticks : List ℕ) → AreNumberFields ticks
numbers_are [] = record { held = tt; words = refl; exact = λ _. tt; told = λ _. tt }
numbers_are (tick ∷ ticks) = grind (arith, numbers_are ticks)

-- ---- from a line's words to the line

-- a line is read from its words
pub trace_line_again : (line : TraceLine) → AreHeld (trace_fields line) → AreExact (trace_fields line) → trace_told_by (words_of_fields (trace_fields line)) ≡ Some line
trace_line_again (opens ticks) held exact =
    let are = numbers_are ticks in
    rw (are.words, length-map ticks decimal, numbers_again (length ticks) ticks (are.exact exact.1) (omega arith)) refl
trace_line_again (calls caller (reports event count stamp bytes)) held exact =
    first_form asked_report_form (caller, (event.0, (count, (stamp, (bytes, tt))))) _ are_forms.0.laws held.1 exact.1
trace_line_again (calls caller (changes state)) held exact = first_form asked_state_form (caller, (state, tt)) _ are_forms.1.0.laws held.1 exact.1
trace_line_again (calls caller (sets event mode)) held exact = first_form asked_mode_form (caller, (event.0, (mode, tt))) _ are_forms.1.1.0.laws held.1 exact.1
trace_line_again (closes tick) held exact = first_form round_end_form (tick, tt) _ are_forms.1.1.1.0.laws held.1 exact.1

-- ---- from words to the line that they tell

-- words that begin with an `N`
opening_is : (words : List (List ℕ)) (line : TraceLine) → opening_in words ≡ Some line → IsShown words (trace_fields line) × IsLine words
opening_is [] line read = cc read
opening_is (word ∷ words) line read =
    let front = bind_some (first_as (the (codes "N")) (word ∷ words)) (λ w. option_map opens (numbers_in (length w.1) w.1)) line read in
    let letter = mapped_some (λ x. (x, words)) ((the (codes "N")).reading word) front.0 front.1 in
    let lawful = the_lawful (codes "N") refl in
    let is : Told (the (codes "N")) word letter.0 = subst (IsReading (the (codes "N")) word) letter.1 (lawful.is word) in
    let ticks = mapped_some opens (numbers_in (length words) words) line (rw (← letter.2) at front.2) in
    let numbers = numbers_take (length words) words ticks.0 ticks.1 in
    let are = numbers_are ticks.0 in (
      rw (← ticks.2) (record { held = (tt, are.held); are = λ exact. cc (is.takes tt, numbers.takes (are.exact exact.1), are.words) }),
      are_line word words (lawful.passes word is.written, all_pass in_word a_number.Writes words number_lawful.passes numbers.written),
    )

pub told_line : (words : List (List ℕ)) (line : TraceLine) (first : Option TraceLine) → opening_in words ≡ first → or_else first (told_in_one trace_forms words) ≡ Some line → IsShown words (trace_fields line) × IsLine words
told_line words line (Some one) is read = opening_is words line (is ∙ read)
told_line words line None is read =
    let told = subst (IsTold trace_fields trace_forms words) read (forms_are trace_fields trace_forms words are_forms) in
    (told.1, forms_line trace_fields trace_forms words are_forms told.0)

pub trace_told_is : (words : List (List ℕ)) (line : TraceLine) → trace_told_by words ≡ Some line → IsShown words (trace_fields line)
trace_told_is words line read = (told_line words line (opening_in words) refl read).0
