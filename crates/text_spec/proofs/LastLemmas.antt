-- The last field of a text, after which nothing stands, is read from the whole text.
use Rattle.text_spec.proofs.Names.{◌≡◌, ℕ, Bool, true, false, List, [], ◌∷◌, sym, ap, subst, ◌∙◌, refl, Option, Some, None, option_map, list_all, join_with_byte-slice_split, Carried, a_context, any_bytes, hex_bytes, bytes_in, context_in, some_hex, is_lower_digit, colon, space, Field, read_by, pieces_of, words_of, ◌>>=◌, ended}
use Rattle.text_spec.proofs.ContextsLaws.{any_lawful, context_lawful}
use Rattle.text_spec.proofs.FieldsLaws.{in_word, IsReading, Lawful}
use Rattle.text_spec.proofs.HexadecimalLemmas.{lower_text, some_hex_takes}
use Rattle.text_spec.proofs.WordsLemmas.{split_joined}

module _ {A : Type 0} (field : Field) (make : field.Value → A) (separator : ℕ) where
  -- a text that is no word of the field has no last piece that is one
  none_last : (text : List ℕ) (pieces : List (List ℕ)) → pieces_of separator text ≡ pieces → field.reading text ≡ None
      → read_by (field ∷ []) make pieces ≡ None
  none_last text [] is none = refl
  none_last text (word ∷ []) is none =
      let same : word ≡ text = rw is at (join_with_byte-slice_split separator text) in
      rw (same, none) refl
  none_last text (word ∷ next ∷ pieces) is none =
      elim (field.reading word) as (λ read. ◌>>=◌ {A = field.Value × List (List ℕ)} (option_map (λ x. (x, next ∷ pieces)) read) (λ x. ended (make x.0) x.1) ≡ None) [ None ↦ refl | Some x ↦ refl ]

  by_reading : (p : ℕ → Bool) → p separator ≡ false
      → (text : List ℕ) → ((x : field.Value) → field.reading text ≡ Some x → list_all p text ≡ true)
      → (read : Option field.Value) → field.reading text ≡ read
      → read_by (field ∷ []) make (pieces_of separator text) ≡ option_map make (field.reading text)
  by_reading p out text passes None is = none_last text _ refl is ∙ sym (ap (option_map make) is)
  by_reading p out text passes (Some x) is = rw (split_joined p separator text [] out (passes x is, tt), is) refl

-- a byte or more, after the last colon
pub last_hex : {A : Type 0} (make : List ℕ → A) (text : List ℕ)
    → read_by (hex_bytes ∷ []) make (pieces_of colon text) ≡ option_map make (some_hex text)
last_hex make text =
    by_reading hex_bytes make colon is_lower_digit refl text
    (λ bytes read. let is = (some_hex_takes text bytes read).0 in rw is.text at (lower_text bytes is.are_bytes))
    (some_hex text) refl

-- a field of a line, after its last space
last_word : {A : Type 0} (field : Field) → Lawful field → (make : field.Value → A) (text : List ℕ)
    → read_by (field ∷ []) make (words_of text) ≡ option_map make (field.reading text)
last_word field lawful make text =
    by_reading field make space in_word refl text
    (λ x read. lawful.passes text (subst (IsReading field text) read (lawful.is text)).written) (field.reading text) refl

pub last_context : {A : Type 0} (make : Carried (List ℕ) → A) (text : List ℕ)
    → read_by (a_context ∷ []) make (words_of text) ≡ option_map make (context_in text)
last_context make text = last_word a_context context_lawful make text

pub last_bytes : {A : Type 0} (make : List ℕ → A) (text : List ℕ)
    → read_by (any_bytes ∷ []) make (words_of text) ≡ option_map make (bytes_in text)
last_bytes make text = last_word any_bytes any_lawful make text
