-- Which lines of a trace have a form.
use Rattle.trace_text.proofs.Names.{◌≡◌, ◌⊎◌, map, ℕ, zero, suc, ◌≤◌, List, [], ◌∷◌, length, refl, sym, ap, subst, inl, inr, arith, AllByRecursion, Some, None, option_map, codes, numbers_in, told_in_one, opening_in, trace_forms, trace_told_by, TraceLine, opens, trace_fields, capped}
use Rattle.text_spec.specs.Fields.{a_number, first_as, the}
use Rattle.text_spec.proofs.ContextsLaws.{lawfuls, numbers_take, the_lawful}
use Rattle.text_spec.proofs.FieldsLaws.{AreForms, IsReading, IsTold, forms_are}
use Rattle.text_spec.proofs.FrontLemmas.{bind_some, mapped_some}
use Rattle.std.specs.Str.Parse.{digits_value}
use Rattle.trace_text.specs.Forms.{IsOpening, HasTraceForm}

-- ---- words that are read

are_forms : AreForms trace_fields trace_forms
are_forms = search lawfuls depth 40

pub told_has : (words : List (List ℕ)) (line : TraceLine) → trace_told_by words ≡ Some line → HasTraceForm words
told_has [] line read = cc read
told_has (word ∷ words) line read =
    let found : (opening_in (word ∷ words) ≡ Some line) ⊎ (told_in_one trace_forms (word ∷ words) ≡ Some line) = grind (arith, read) in
    elim found [
      | inl opening ↦
          let first = bind_some (first_as (the (codes "N")) (word ∷ words)) (λ w. option_map opens (numbers_in (length w.1) w.1)) line opening in
          let letter = mapped_some (λ x. (x, words)) ((the (codes "N")).reading word) first.0 first.1 in
          let ticks = mapped_some opens (numbers_in (length first.0.1) first.0.1) line first.2 in
          let is = subst (IsReading (the (codes "N")) word) letter.1 ((the_lawful (codes "N") refl).is word) in
          inl (is.written.2, subst (AllByRecursion a_number.Writes) (sym (ap (λ w. w.1) letter.2)) (numbers_take (length first.0.1) first.0.1 ticks.0 ticks.1).written)
      | inr other ↦ inr (subst (IsTold trace_fields trace_forms (word ∷ words)) other (forms_are trace_fields trace_forms (word ∷ words) are_forms)).0
    ]

-- ---- words that are not

-- numbers are read
numbers_read : (words : List (List ℕ)) (most : ℕ) → length words ≤ most → AllByRecursion a_number.Writes words
    → numbers_in most words ≡ Some (map (λ word. capped (digits_value 10 word)) words)
numbers_read [] most few are = refl
numbers_read (word ∷ words) zero few are = absurd (omega (arith, few))
numbers_read (word ∷ words) (suc most) few are = rw (are.0, numbers_read words most (omega (arith, few)) are.1) refl

-- so is a line that begins a round
opening_read : (words : List (List ℕ)) → IsOpening words → opening_in words ≡ None → ⊥
opening_read [] is none = is
opening_read (word ∷ words) is none = cc (rw (is.0, numbers_read words (length words) (omega arith) is.1) at none)

pub none_has : (words : List (List ℕ)) → trace_told_by words ≡ None → HasTraceForm words → ⊥
none_has words none has =
    let both : (opening_in words ≡ None) × (told_in_one trace_forms words ≡ None) = grind (arith, none) in
    elim has [ inl is ↦ opening_read words is both.0 | inr form ↦ subst (IsTold trace_fields trace_forms words) both.1 (forms_are trace_fields trace_forms words are_forms) form ]
