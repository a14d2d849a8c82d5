-- Lists of fields: their reading against their words, both ways, for any fields that keep the laws.
use Rattle.text_spec.proofs.Names.{◌≡◌, ◌==◌, ◌∷◌, ℕ, not, Bool, true, List, [], refl, sym, ap, subst, ◌∙◌, arith, inl, inr, Option, Some, None, option_map, nat_lt, list_all, none-some, Field, Filled, simple, put, the, words_of_fields, AreHeld, AreExact, AreWritten, HasForm, Makes, read_by, Form, told_in, told_in_one, or_else, space, line_feed, words_of, line_of, ◌>>=◌}
use Rattle.text_spec.proofs.WordsLemmas.{Pass, all_pass, weaker, split_joined, join_passes}

-- ---- the laws of a field

-- the word is read as this value, which is one that there is
pub record Told (field : Field) (word : List ℕ) (x : field.Value) : Type 0 where
  pub written : field.Writes word
  pub held : field.Held x
  -- the word is the value's, where that is told as it is
  pub takes : field.Exact x → word ≡ field.word x

-- what holds of a word by what it is read as: a word that is not read is none that the field may be
abbrev pub IsReading : (field : Field) → List ℕ → Option field.Value → Type 0
IsReading field word None = field.Writes word → ⊥
IsReading field word (Some x) = Told field word x

-- a byte that words have: neither a space nor one below it
abbrev pub in_word : ℕ → Bool
in_word b = nat_lt space b

pub record Lawful (field : Field) : Type 0 where
  pub is : (word : List ℕ) → IsReading field word (field.reading word)
  -- a value that there is and that is told as it is is read from its word
  pub again : (x : field.Value) → field.Held x → field.Exact x → field.reading (field.word x) ≡ Some x
  pub passes : (word : List ℕ) → field.Writes word → list_all in_word word ≡ true

-- all of these fields keep the laws
abbrev pub AreLawful : List Field → Type 0
AreLawful [] = Unit {0}
AreLawful (field ∷ fields) = Lawful field × AreLawful fields

-- the laws by both ways of the reading
pub lawful : (field : Field) → ((word : List ℕ) (x : field.Value) → field.reading word ≡ Some x → Told field word x)
    → ((word : List ℕ) → field.Writes word → field.reading word ≡ None → ⊥)
    → ((x : field.Value) → field.Held x → field.Exact x → field.reading (field.word x) ≡ Some x)
    → ((word : List ℕ) → field.Writes word → list_all in_word word ≡ true) → Lawful field
lawful field takes reads again passes = record {
  is = λ word. elim (field.reading word) as (λ read. field.reading word ≡ read → IsReading field word read) [
    | None ↦ λ is written. reads word written is
    | Some x ↦ takes word x
  ] refl;
  again = again;
  passes = passes;
}

-- a field of values that are all told as they are
pub simple_lawful : {Value : Type 0} (Held : Value → Type 0) (word : Value → List ℕ) (reading : List ℕ → Option Value)
    → ((w : List ℕ) (x : Value) → reading w ≡ Some x → Held x × (w ≡ word x)) → ((x : Value) → Held x → reading (word x) ≡ Some x)
    → ((x : Value) → Held x → list_all in_word (word x) ≡ true) → Lawful (simple Value Held word reading)
simple_lawful Held word reading takes again passes = lawful (simple _ Held word reading)
    (λ w x read. let is = takes w x read in record { written = (x, is.0, is.1); held = is.0; takes = λ exact. is.1 })
    (λ w is none. none-some is.0 (sym none ∙ ap reading is.2 ∙ again is.0 is.1))
    (λ x held exact. again x held)
    (λ w is. ap (list_all in_word) is.2 ∙ passes is.0 is.1)

-- ---- fields one after another

-- one value for each field
abbrev pub Values : List Field → Type 0
Values [] = Unit {0}
Values (field ∷ fields) = field.Value × Values fields

-- what is made of values
abbrev pub made_of : {A : Type 0} → (fields : List Field) → Makes fields A → Values fields → A
made_of [] made values = made
made_of (field ∷ fields) makes values = made_of fields (makes values.0) values.1

-- the fields with their values
abbrev pub fill : (fields : List Field) → Values fields → List Filled
fill [] values = []
fill (field ∷ fields) values = put field values.0 ∷ fill fields values.1

-- the words are those of these fields, where the values are told as they are
pub record IsShown (words : List (List ℕ)) (fields : List Filled) : Type 0 where
  pub held : AreHeld fields
  pub are : AreExact fields → words ≡ words_of_fields fields

-- the values that words were read as
pub record Reads {A : Type 0} (fields : List Field) (makes : Makes fields A) (words : List (List ℕ)) (a : A) : Type 0 where
  pub values : Values fields
  pub made : made_of fields makes values ≡ a
  pub written : AreWritten fields words
  pub shown : IsShown words (fill fields values)

-- what holds of words by what they are read as
abbrev pub AreReading : {A : Type 0} → (fields : List Field) → Makes fields A → List (List ℕ) → Option A → Type 0
AreReading fields makes words None = AreWritten fields words → ⊥
AreReading fields makes words (Some a) = Reads fields makes words a

-- words are read exactly where the fields may be they
pub fields_are : (A : Type 0) (fields : List Field) (makes : Makes fields A) (words : List (List ℕ)) → AreLawful fields → AreReading fields makes words (read_by fields makes words)
fields_are A [] makes [] laws = record { values = tt; made = refl; written = tt; shown = record { held = tt; are = λ exact. refl } }
fields_are A (field ∷ fields) makes (word ∷ words) laws =
    elim (field.reading word) as (λ read. IsReading field word read → AreReading (field ∷ fields) makes (word ∷ words) (◌>>=◌ {A = field.Value × List (List ℕ)} (option_map (λ x. (x, words)) read) (λ x. read_by fields (makes x.0) x.1))) [
      | None ↦ λ none written. none written.0
      | Some x ↦ λ told. elim (read_by fields (makes x) words) as (λ read. AreReading fields (makes x) words read → AreReading (field ∷ fields) makes (word ∷ words) read) [
        | None ↦ λ none written. none written.1
        | Some a ↦ λ more. record {
          values = (x, more.values);
          made = more.made;
          written = (told.written, more.written);
          shown = record { held = (told.held, more.shown.held); are = λ exact. rw (told.takes exact.0, more.shown.are exact.1) refl };
        }
      ] (fields_are A fields (makes x) words laws.1)
    ] (laws.0.is word)
fields_are A fields makes words laws = λ written. written

-- what was read of words
pub reads : {A : Type 0} (fields : List Field) (makes : Makes fields A) (words : List (List ℕ)) (a : A) → AreLawful fields → read_by fields makes words ≡ Some a → Reads fields makes words a
reads fields makes words a laws read = subst (AreReading fields makes words) read (fields_are _ fields makes words laws)

-- values are read from their words
pub fields_again : {A : Type 0} (fields : List Field) (makes : Makes fields A) (values : Values fields) → AreLawful fields → AreHeld (fill fields values) → AreExact (fill fields values)
    → read_by fields makes (words_of_fields (fill fields values)) ≡ Some (made_of fields makes values)
fields_again [] makes values laws held exact = refl
fields_again (field ∷ fields) makes values laws held exact =
    rw (laws.0.again values.0 held.0 exact.0) (fields_again fields (makes values.0) values.1 laws.1 held.1 exact.1)

-- words that fields may be have only bytes that words have
pub fields_pass : (fields : List Field) (words : List (List ℕ)) → AreLawful fields → AreWritten fields words → Pass in_word words
fields_pass [] [] laws written = tt
fields_pass (field ∷ fields) (word ∷ words) laws written = (laws.0.passes word written.0, fields_pass fields words laws.1 written.1)
fields_pass fields words laws written = absurd written

-- a form is read where it is the first
pub first_form : {A : Type 0} (form : Form A) (values : Values form.fields) (others : Option A) → AreLawful (the form.letter ∷ form.fields)
    → AreHeld (fill form.fields values) → AreExact (fill form.fields values)
    → or_else (told_in form (form.letter ∷ words_of_fields (fill form.fields values))) others ≡ Some (made_of form.fields form.makes values)
first_form form values others laws held exact =
    rw (fields_again (the form.letter ∷ form.fields) (λ _. form.makes) (tt, values) laws (tt, held) (tt, exact)) refl

-- ---- the line of some words

-- a byte that lines have
abbrev pub in_line : ℕ → Bool
in_line b = not (b == line_feed)

-- the line of these words is cut into them again, and has no line feed
abbrev pub IsLine : List (List ℕ) → Type 0
IsLine words = (words_of (line_of words) ≡ words) × (list_all in_line (line_of words) ≡ true)

pub are_line : (word : List ℕ) (words : List (List ℕ)) → Pass in_word (word ∷ words) → IsLine (word ∷ words)
are_line word words pass = (
  split_joined in_word space word words refl pass,
  join_passes in_line space (word ∷ words) refl (all_pass in_line (λ word. list_all in_word word ≡ true) (word ∷ words) (λ word is. weaker in_word in_line word (λ b above. grind (arith, above)) is) pass),
)

module _ {A : Type 0} (shows : A → List Filled) where
  -- ---- forms

  -- what a form makes has the form's letter and its fields
  pub record IsForm (form : Form A) : Type 1 where
    pub laws : AreLawful (the form.letter ∷ form.fields)
    pub is : (values : Values form.fields) → shows (made_of form.fields form.makes values) ≡ put (the form.letter) tt ∷ fill form.fields values

  abbrev pub AreForms : List (Form A) → Type 1
  AreForms [] = Unit {1}
  AreForms (form ∷ forms) = IsForm form × AreForms forms

  -- what holds of words by what they tell in one of some forms
  abbrev pub IsTold : List (Form A) → List (List ℕ) → Option A → Type 0
  IsTold forms words None = HasForm forms words → ⊥
  IsTold forms words (Some a) = HasForm forms words × IsShown words (shows a)

  -- what one form tells, or else what the others tell
  told_or : (form : Form A) (forms : List (Form A)) (words : List (List ℕ)) (one other : Option A) → IsForm form
      → AreReading (the form.letter ∷ form.fields) (λ _. form.makes) words one → IsTold forms words other → IsTold (form ∷ forms) words (or_else one other)
  told_or form forms words None None is none nor = λ written. elim written [ inl here ↦ none here | inr later ↦ nor later ]
  told_or form forms words None (Some a) is none later = (inr later.0, later.1)
  told_or form forms words (Some a) other is here later =
      (inl here.written, subst (IsShown words) (sym (ap shows (sym here.made) ∙ is.is here.values.1)) here.shown)

  -- words tell something exactly where they have one of the forms
  pub forms_are : (forms : List (Form A)) (words : List (List ℕ)) → AreForms forms → IsTold forms words (told_in_one forms words)
  forms_are [] words are = λ written. written
  forms_are (form ∷ forms) words are =
      told_or form forms words (told_in form words) (told_in_one forms words) are.0 (fields_are _ (the form.letter ∷ form.fields) (λ _. form.makes) words are.0.laws) (forms_are forms words are.1)

  -- words that have a form are a line
  pub forms_line : (forms : List (Form A)) (words : List (List ℕ)) → AreForms forms → HasForm forms words → IsLine words
  forms_line [] words are has = absurd has
  forms_line (form ∷ forms) [] are (inl here) = absurd here
  forms_line (form ∷ forms) (word ∷ words) are (inl here) = are_line word words (fields_pass (the form.letter ∷ form.fields) (word ∷ words) are.0.laws here)
  forms_line (form ∷ forms) words are (inr later) = forms_line forms words are.1 later
