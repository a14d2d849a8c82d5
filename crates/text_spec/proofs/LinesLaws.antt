-- Texts that are read line by line: the steps of a reading, the text of lines without a fault, and what a text that
-- was read tells, for any grammar.
use Rattle.text_spec.proofs.Names.{◌≡◌, ◌<◌, ◌+◌, ◌==◌, ◌∷◌, ◌++◌, Grammar, BadLine, at_line, AreFaultless, after_line, at_end, past_in, line_with, Fails, RefusedFor, fault_at, fault_behind, ℕ, suc, List, [], length, map, refl, sym, arith, Option, Some, None, Result, Ok, Err, ⊤, AllByRecursion, eqb-true, join_with_byte-slice_split, length-append, length-slice_split, nil_from_length, AreExact, AreHeld, Filled, line_feed, past_with, pieces_of, space, text_of, words_of, words_of_fields, add-one, ◌>>◌, asks}
use Rattle.text_spec.specs.Lines.{◌>>=◌, after_pieces}
use Rattle.ids_config.proofs.StepLemmas.{both_ok, asked}
use Rattle.text_spec.specs.declared.fault.LineFault.{LineFault}
use Rattle.text_spec.specs.declared.fault.LineFault.TheVariants as line_faults
use Rattle.text_spec.proofs.FieldsLaws.{IsLine, IsShown, in_line}
use Rattle.text_spec.proofs.WordsLemmas.{Pass, join_ended, split_text}

-- ---- steps that found no fault

pub bind_ok : {A B : Type 0} (r : Result A BadLine) (f : A → Result B BadLine) (y : B) → (r >>= f) ≡ Ok y → (x : A) × (r ≡ Ok x) × (f x ≡ Ok y)
bind_ok (Ok x) f y h = (x, refl, h)
bind_ok (Err bad) f y h = cc h

pub at_line_ok : {A : Type 0} (n : ℕ) (r : Result A ℕ) (x : A) → at_line n r ≡ Ok x → r ≡ Ok x
at_line_ok n r x h = grind (arith, h)

module _ {Past Line : Type 0} (grammar : Grammar Past Line) where
  -- ---- pieces

  -- a line stands in front of the other pieces
  pub at_front : (n : ℕ) (past : Past) (line : List ℕ) (pieces : List (List ℕ)) → 0 < length pieces
      → after_pieces grammar n past (line ∷ pieces) ≡ (at_line n (after_line grammar past line) >>= λ now. after_pieces grammar (suc n) now pieces)
  unfolding after_pieces
  at_front n past line [] some = absurd (omega arith)
  at_front n past line (piece ∷ pieces) some = refl

  -- a piece that was cut off at a line feed, and those after it
  module _ (n : ℕ) (past : Past) (line behind : List ℕ) (pieces : List (List ℕ)) (expected : Result Past BadLine)
      (are : pieces ≡ line ∷ pieces_of line_feed behind) (was : after_pieces grammar n past pieces ≡ expected) where
    -- the reading of the first of them, and then of the others
    goes_by : {r : Result Past ℕ} → after_line grammar past line ≡ r → (at_line n r >>= λ now. after_pieces grammar (suc n) now (pieces_of line_feed behind)) ≡ expected
    goes_by is = rw (← is, ← at_front n past line (pieces_of line_feed behind) (omega (arith, length-slice_split (λ b. b == line_feed) behind)), ← are) was

    -- after a line that was taken
    pub goes_on : (now : Past) → after_line grammar past line ≡ Ok now → after_pieces grammar (n + 1) now (pieces_of line_feed behind) ≡ expected
    goes_on now took = rw add-one (goes_by took)

    -- at a line that was refused, or for want of memory
    pub refuses : (fault : LineFault) → RefusedFor (after_line grammar past line) fault → Fails expected (fault_at n fault)
    refuses (line_faults.Fault number) refused = sym (goes_by refused)
    refuses line_faults.NoMemory refused = tt

  -- after all lines, by what was found of the last piece
  pub ends : (n : ℕ) (past : Past) (rest : List ℕ) (pieces : List (List ℕ)) (expected : Result Past BadLine) → pieces ≡ rest ∷ [] → after_pieces grammar n past pieces ≡ expected
      → (found : Result ⊤ ℕ) → found ≡ fault_behind rest (grammar.end_fault past) → expected ≡ at_line n (found >> Ok past)
  unfolding after_pieces
  ends n past rest pieces expected are was found is =
      rw (← was, are, is) (elim (asks 1 (length rest == 0)) as (λ one. at_line n (one >> grammar.end_fault past >> Ok past) ≡ at_line n ((one >> grammar.end_fault past) >> Ok past)) [ Ok done ↦ refl | Err fault ↦ refl ])

  -- ---- lines one after the other

  -- the lines so far with some more
  abbrev pub all_next : Past → List Line → Past
  all_next past [] = past
  all_next past (line ∷ lines) = all_next (grammar.next past line) lines

module _ {Past Line : Type 0} (grammar : Grammar Past Line) (shows : Line → List Filled) where
  abbrev pub AreHeldLines : List Line → Type 0
  AreHeldLines lines = AllByRecursion (λ line. AreHeld (shows line)) lines

  abbrev pub AreExactLines : List Line → Type 0
  AreExactLines lines = AllByRecursion (λ line. AreExact (shows line)) lines

  abbrev pub lines_for : List Line → List (List ℕ)
  lines_for lines = map (λ line. line_with (shows line)) lines

  -- ---- what a text that was read tells

  -- lines that were read
  pub record AreRead (past now : Past) (pieces : List (List ℕ)) : Type 0 where
    pub lines : List Line
    pub none : AreFaultless grammar past lines
    pub held : AreHeldLines lines
    pub leave : all_next grammar past lines ≡ now
    pub are : AreExactLines lines → lines_for lines ++ [] ∷ [] ≡ pieces

  -- where words are read as a line that they show
  module _ (takes : (words : List (List ℕ)) (line : Line) → grammar.told_by words ≡ Some line → IsShown words (shows line)) where
    is_read : (past now : Past) (text : List ℕ) (read : Option Line) → grammar.told_by (words_of text) ≡ read → past_with grammar past read ≡ Ok now
        → (line : Line) × (grammar.fault_of past line ≡ Ok tt) × (grammar.next past line ≡ now) × IsShown (words_of text) (shows line)
    is_read past now text None told step = cc step
    is_read past now text (Some line) told step =
        let parts = both_ok (grammar.fault_of past line) (Ok (grammar.next past line)) now step in
        (line, parts.0, cc parts.1, takes (words_of text) line told)

    are_read : (n : ℕ) (past now : Past) (pieces : List (List ℕ)) → 0 < length pieces → after_pieces grammar n past pieces ≡ Ok now → AreRead past now pieces
    unfolding after_pieces
    are_read n past now [] some read = absurd (omega arith)
    are_read n past now (piece ∷ []) some read =
        let last = asked 1 (length piece == 0) (grammar.end_fault past >> Ok past) now (at_line_ok n (at_end grammar past piece) now read) in
        let end = both_ok (grammar.end_fault past) (Ok past) now last.1 in
        record { lines = []; none = tt; held = tt; leave = cc end.1; are = λ exact. rw (nil_from_length piece (eqb-true (length piece) 0 last.0)) refl }
    are_read n past now (piece ∷ another ∷ pieces) some read =
        let step = bind_ok (at_line n (after_line grammar past piece)) (λ then. after_pieces grammar (suc n) then (another ∷ pieces)) now read in
        let one = is_read past step.0 piece (grammar.told_by (words_of piece)) refl (at_line_ok n (after_line grammar past piece) step.0 step.1) in
        let more = are_read (suc n) step.0 now (another ∷ pieces) (omega arith) step.2 in
        record {
          lines = one.0 ∷ more.lines;
          none = (one.1, rw one.2 more.none);
          held = (one.3.held, more.held);
          leave = rw one.2 more.leave;
          are = λ exact. rw (more.are exact.1, ← one.3.are exact.0, join_with_byte-slice_split space piece) refl;
        }

    pub text_read : {A : Type 0} (view : Past → A) (past : Past) (text : List ℕ) (a : A) → (past_in grammar past text >>= λ now. Ok (view now)) ≡ Ok a
        → (now : Past) × AreRead past now (pieces_of line_feed text) × (view now ≡ a)
    text_read view past text a read =
        let step = bind_ok (past_in grammar past text) (λ now. Ok (view now)) a read in
        (step.0, are_read 1 past step.0 (pieces_of line_feed text) (omega (arith, length-slice_split (λ b. b == line_feed) text)) step.1, cc step.2)

  -- ---- the text of lines without a fault

  -- lines without a fault, which can be held, and leave these lines so far
  pub record Leaves (past : Past) (lines : List Line) (now : Past) : Type 0 where
    pub faultless : AreFaultless grammar past lines
    pub held : AreHeldLines lines
    pub leaves : all_next grammar past lines ≡ now

  -- one line, and some after it
  pub leave_one : (past now : Past) (line : Line) (lines : List Line) → grammar.fault_of past line ≡ Ok tt → AreHeld (shows line) → Leaves (grammar.next past line) lines now → Leaves past (line ∷ lines) now
  leave_one past now line lines none held rest = record { faultless = (none, rest.faultless); held = (held, rest.held); leaves = rest.leaves }

  -- some lines, and some after them
  pub leave_more : (past middle now : Past) (lines more : List Line) → Leaves past lines middle → Leaves middle more now → Leaves past (lines ++ more) now
  leave_more past middle now [] more one other = rw one.leaves other
  leave_more past middle now (line ∷ lines) more one other = grind (arith, one, other, leave_more (grammar.next past line) middle now lines more)

  pub record Tells : Type 0 where
    -- a line without a fault is told as it is
    pub exact : (past : Past) (line : Line) → grammar.fault_of past line ≡ Ok tt → AreExact (shows line)
    -- a line is read from its words, and no other words are read as it; they are cut again
    pub again : (line : Line) → AreHeld (shows line) → AreExact (shows line) → grammar.told_by (words_of_fields (shows line)) ≡ Some line
    pub takes : (words : List (List ℕ)) (line : Line) → grammar.told_by words ≡ Some line → IsShown words (shows line) × IsLine words

  module _ (tells : Tells) where
    -- lines without a fault, one after another: each is told as it is, and none has a line feed
    lines_add : (n : ℕ) (past : Past) (lines : List Line) → AreFaultless grammar past lines → AreHeldLines lines
        → AreExactLines lines × Pass in_line (lines_for lines) × ((end : ℕ) × (after_pieces grammar n past (lines_for lines ++ [] ∷ []) ≡ at_line end (at_end grammar (all_next grammar past lines) [])))
    unfolding after_pieces
    lines_add n past [] none held = (tt, tt, (n, refl))
    lines_add n past (line ∷ lines) none held =
        let exact = tells.exact past line none.0 in
        let again = tells.again line held.0 exact in
        let is = (tells.takes (words_of_fields (shows line)) line again).1 in
        let rest = lines_add (suc n) (grammar.next past line) lines none.1 held.1 in
        let step = at_front grammar n past (line_with (shows line)) (lines_for lines ++ [] ∷ []) (omega (arith, length-append (lines_for lines) ([] ∷ []))) in
        ((exact, rest.0), (is.1, rest.1), (rest.2.0, rw (step, is.0, again, none.0) rest.2.1))

    -- the text of lines without a fault
    pub text_adds : (past : Past) (lines : List Line) → AreFaultless grammar past lines → AreHeldLines lines
        → (end : ℕ) × (past_in grammar past (text_of (lines_for lines)) ≡ at_line end (at_end grammar (all_next grammar past lines) []))
    text_adds past lines none held =
        let all = lines_add 1 past lines none held in
        (all.2.0, rw (split_text in_line (lines_for lines) refl all.1) all.2.1)

    -- the text of which lines were read is theirs
    pub is_their_text : (past now : Past) (text : List ℕ) (read : AreRead past now (pieces_of line_feed text)) → text ≡ text_of (lines_for read.lines)
    is_their_text past now text read =
        rw (read.are (lines_add 1 past read.lines read.none read.held).0, join_with_byte-slice_split line_feed text) at (join_ended (lines_for read.lines))
