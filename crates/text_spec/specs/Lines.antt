-- Texts that are read line by line: what the lines so far tell, the first fault of the next one, and the first
-- bad line of a text.
-- Source: the text formats of this project (docs/FORMATS.md).
use Rattle.std.specs.Prelude.{◌≡◌, ◌==◌, ◌∷◌}
use Rattle.text_spec.specs.Below.{ℕ, suc, List, [], length, Option, Some, None, Result, Ok, Err, ⊤, ◌>>◌, asks}
use Rattle.text_spec.specs.Words.{line_feed, pieces_of, words_of}
use Rattle.text_spec.specs.declared.fault.LineFault.{LineFault}
use Rattle.text_spec.specs.declared.fault.TextFault.{TextFault}
use Rattle.text_spec.specs.declared.fault.LineFault.TheVariants as line_faults
use Rattle.text_spec.specs.declared.fault.TextFault.TheVariants as faults

-- how a text is read: what the words of a line tell, none where they have no form; the first fault of that
-- after what the lines so far tell; what they tell with it; and the fault of a text that ends after them
pub record Grammar (Past Line : Type 0) : Type 0 where
  pub told_by : List (List ℕ) → Option Line
  pub fault_of : Past → Line → Result ⊤ ℕ
  pub next : Past → Line → Past
  pub end_fault : Past → Result ⊤ ℕ

-- a line, from 1, and the number of its first fault
pub record BadLine : Type 0 where
  pub line : ℕ
  pub fault : ℕ

-- what was found of the line of this number
abbrev pub at_line : {A : Type 0} → ℕ → Result A ℕ → Result A BadLine
at_line n (Ok x) = Ok x
at_line n (Err fault) = Err (record { line = n; fault = fault })

-- the next step, where there was no fault yet
infixl 10 ◌>>=◌
abbrev pub ◌>>=◌ : {A B : Type 0} → Result A BadLine → (A → Result B BadLine) → Result B BadLine
(Ok x) >>= f = f x
(Err bad) >>= f = Err bad

module _ {Past Line : Type 0} (grammar : Grammar Past Line) where
  -- none of these lines has a fault, each after the lines before it
  abbrev pub AreFaultless : Past → List Line → Type 0
  AreFaultless past [] = ⊤
  AreFaultless past (line ∷ lines) = (grammar.fault_of past line ≡ Ok tt) × AreFaultless (grammar.next past line) lines

  -- the lines so far with what a line tells, or the line's first fault
  abbrev pub past_with : Past → Option Line → Result Past ℕ
  past_with past None = Err 1
  past_with past (Some line) = grammar.fault_of past line >> Ok (grammar.next past line)

  -- the lines so far with one more, or its first fault
  abbrev pub after_line : Past → List ℕ → Result Past ℕ
  after_line past line = past_with past (grammar.told_by (words_of line))

  -- the lines so far, where the text ends after them and this piece. It is what stands after the last line
  -- feed, and nothing may stand there.
  abbrev pub at_end : Past → List ℕ → Result Past ℕ
  at_end past rest = asks 1 (length rest == 0) >> grammar.end_fault past >> Ok past

  -- the lines so far with those of a text's pieces between line feeds, the first of them of this number, or
  -- the first bad line
  unfoldable pub after_pieces : ℕ → Past → List (List ℕ) → Result Past BadLine
  after_pieces n past [] = Ok past
  after_pieces n past (rest ∷ []) = at_line n (at_end past rest)
  after_pieces n past (line ∷ next_line ∷ pieces) = at_line n (after_line past line) >>= λ now. after_pieces (suc n) now (next_line ∷ pieces)

  -- what the lines of a text tell after these, or its first bad line
  abbrev pub past_in : Past → List ℕ → Result Past BadLine
  past_in past text = after_pieces 1 past (pieces_of line_feed text)

-- ---- what the answers of a reader to a line, and to a text, say, by cases

-- the line's first fault, or want of memory
abbrev pub RefusedFor : {Past : Type 0} → Result Past ℕ → LineFault → Type 0
RefusedFor expected (line_faults.Fault number) = expected ≡ Err number
RefusedFor expected line_faults.NoMemory = ⊤

-- the line was taken, and these are the lines so far, or refused as it was expected, or memory was refused
abbrev pub Took : {Past : Type 0} → Past → Result Past ℕ → Result ⊤ LineFault → Type 0
Took now expected (Ok done) = expected ≡ Ok now
Took now expected (Err fault) = RefusedFor expected fault

-- the first bad line that was expected, or want of memory
abbrev pub Fails : {A : Type 0} → Result A BadLine → TextFault → Type 0
Fails expected (faults.Line line number) = expected ≡ Err (record { line = line; fault = number })
Fails expected faults.NoMemory = ⊤

-- what was read is what was expected, or the first bad line, or memory was refused
abbrev pub Reads : {A X : Type 0} → (X → A) → Result A BadLine → Result X TextFault → Type 0
Reads view expected (Ok x) = expected ≡ Ok (view x)
Reads view expected (Err fault) = Fails expected fault

-- the fault of the line of this number
abbrev pub fault_at : ℕ → LineFault → TextFault
fault_at line (line_faults.Fault number) = faults.Line line number
fault_at line line_faults.NoMemory = faults.NoMemory

-- the fault of a text that ends in this piece, where this is the fault of one that ends after its lines
abbrev pub fault_behind : List ℕ → Result ⊤ ℕ → Result ⊤ ℕ
fault_behind rest fault = asks 1 (length rest == 0) >> fault
