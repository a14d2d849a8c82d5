-- Words, and what clap finds in them.
use Rattle.std.proofs.Common.{◌≡◌, ℕ, true, false, List, [], ◌∷◌, Option, Some, None, Ok, Err, refl, ap, inl, inr, arith}
use Rattle.std.proofs.lemmas.Bool.{cases_Bool}
use Rattle.std.specs.Prelude.{Result}
use Rattle.std.specs.Str.Parse.{ParsesUnsigned}
use Rattle.clap.specs.Kinds.{HasKind, IsAmong, Kinds}
use Rattle.clap.specs.Matches.{ReadsOne, first_value, one_text, found_of}
use Rattle.clap.specs.Simple.{is_simple}
use Rattle.clap.specs.Walk.{first_of, rows_of}
use Rattle.clap.specs.ValueTests.{is_unsigned_in}
use Rattle.clap.specs.Words.{App, Text, HasMatchesOf, fault_of, is_simple_and_free, kind_of}
use Rattle.clap.specs.declared.error.Error.{Error}
use Rattle.clap.specs.declared.error.kind.ErrorKind.TheVariants.{OutOfMemory}
use Rattle.clap.specs.declared.builder.value_parser.ValueParser.TheVariants.{Unsigned}
use Rattle.clap.specs.declared.parser.matches.ArgMatches.{ArgMatches}
use Rattle.clap.specs.declared.parser.matches.Found.{Found}
use Rattle.clap.proofs.OnLiterals.{clap_on_literals}
use Rattle.clap.proofs.ValueTestLemmas.{Accepts-accepts, accepts-Accepts}
use Rattle.clap.proofs.WalkLemmas.{first_value-rows, one_text-rows}
use Rattle.gen_options.specs.CommandLine.{command_line}
use Rattle.gen_options.specs.Words.{◌>>=◌, found, given_by, number_by, number_in, refusals, unless_refused, words_give}

-- ---- numbers

module _ {E : Type 0} (G : List ℕ → Result ℕ E → Type 0)
    (parses : (text : List ℕ) (r : Result ℕ E) → G text r → ParsesUnsigned 64 10 text r) where
  -- what is read of a text is its number
  text_read : (text : List ℕ) (r : Option ℕ) → ReadsOne G text r → r ≡ number_in text
  text_read text (Some n) reads =
      let so = parses text (Ok n) reads in
      rw (Accepts-accepts false (Unsigned 0 18446744073709551615) text (so.0.0, so.0.1, omega arith, omega arith))
      (ap Some so.1)
  text_read text None reads = elim (cases_Bool (is_unsigned_in 0 18446744073709551615 text)) [
    | inl digits ↦
        let is = accepts-Accepts false (Unsigned 0 18446744073709551615) text digits in
        absurd (parses text (Err reads.0) reads.1 (is.0, is.1))
    | inr other ↦ rw other refl
  ]

  -- what is read of an option is its number
  pub number_read : (f : Found) (id : List ℕ) (r : Option ℕ) → (one_text f id ≡ None → r ≡ None)
      → ((text : List ℕ) → one_text f id ≡ Some text → ReadsOne G text r)
      → r ≡ number_by id (rows_of f)
  number_read f id r none some = rw (← one_text-rows f id) (by_text (one_text f id) none some)
    where
      by_text : (text : Option (List ℕ)) → (text ≡ None → r ≡ None)
          → ((t : List ℕ) → text ≡ Some t → ReadsOne G t r) → r ≡ (text >>= number_in)
      by_text None none some = none refl
      by_text (Some t) none some = text_read t r (some t refl)

-- ---- refusals

-- clap's words say of the command what it takes and refuses
simple_and_free : is_simple_and_free command_line ≡ true
unfolding clap_on_literals
simple_and_free = refl

simple : is_simple command_line ≡ true
unfolding clap_on_literals
simple = refl

module _ (words : List Text) (app : App) (is : app ≡ command_line) where
  -- words that clap takes give what it found
  pub words_taken : (matches : ArgMatches) → (is_simple_and_free app ≡ true → fault_of app words ≡ [])
      → HasMatchesOf app words matches → given_by (rows_of (found_of matches)) ≡ words_give words
  unfolding found refusals
  words_taken matches taken has =
      let none = rw is at taken in
      let all = rw is at has in
      rw (none simple_and_free, (all simple).0) refl

  -- words that it refuses, and not for want of memory, give nothing
  pub words_refused : (e : Error) → (kind_of e ≡ OutOfMemory → ⊥)
      → (is_simple_and_free app ≡ true → HasKind (fault_of app words) e) → None ≡ words_give words
  unfolding refusals
  words_refused e other fails =
      let some = rw is at fails in
      elim (some simple_and_free) [
        | inl memory ↦ absurd (other memory)
        | inr among ↦ by_kinds (fault_of command_line words) among
      ]
    where
      by_kinds : (kinds : Kinds) → IsAmong (kind_of e) kinds → None ≡ unless_refused kinds (given_by (found words))
      by_kinds [] among = absurd among
      by_kinds (k ∷ ks) among = refl

-- ---- names

-- the first word found of a name
pub first_found : (f : Found) (id : Text) → first_value f id ≡ first_of id (rows_of f)
first_found f id = first_value-rows f id
