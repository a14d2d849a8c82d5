-- The lines of the last turn, which a manager keeps if a journal was asked for.
use Rattle.std.specs.Borrow.{Bor}
use Rattle.std.specs.Prelude.{◌≡◌, ℕ, ◌≤◌, Bool, true, false, List, [], length, drop, take, Result, Ok, Err, Vec, vec_capacity}
use Rattle.ids_types.specs.Turns.{Turn}
use Rattle.journal.specs.Printing.{most_for, turn_text}
use Rattle.idsm_api.specs.declared.answer.Answer.{Answer}
use Rattle.idsm_api.specs.declared.answer.Answer.TheVariants.{Done, OutOfRange, SmallBuffer}
use Rattle.idsm_api.specs.declared.text.TurnText.{TurnText}
use Rattle.idsm_api.specs.Writing.{IsWritten}

-- the lines of a turn are printed, if there is room for the most that they take, whatever their numbers are; and the room is
-- never less than before
pub record Prints {Z : Type 0} (turn : Turn) (old new : Vec ℕ Z) (done : Bool) : Type 0 where
  pub text_is : done ≡ true → new.items ≡ turn_text turn
  pub enough : length (turn_text turn) ≤ most_for turn → most_for turn ≤ vec_capacity old → done ≡ true
  pub room_is : vec_capacity old ≤ vec_capacity new

-- a turn leaves its own lines if they were asked for, or says that it missed them
pub record Notes (old : TurnText) (turn : Turn) (new : TurnText) : Type 0 where
  pub asked_is : new.asked ≡ old.asked
  pub text_is : new.asked ≡ true → new.missed ≡ false → new.text.items ≡ turn_text turn
  pub enough : new.asked ≡ true → length (turn_text turn) ≤ most_for turn → most_for turn ≤ vec_capacity old.text → new.missed ≡ false
  pub room_is : vec_capacity old.text ≤ vec_capacity new.text

-- no turn was made yet
pub record IsNewText (asked : Bool) (text : TurnText) : Type 0 where
  pub asked_is : text.asked ≡ asked
  pub not_missed : text.missed ≡ false
  pub is_empty : text.text.items ≡ []

-- the lines are there
pub record HasLines (text : TurnText) (lines : List ℕ) : Type 0 where
  pub asked : text.asked ≡ true
  pub not_missed : text.missed ≡ false
  pub lines_are : lines ≡ text.text.items

-- a refusal with its cause: they were not asked for, or there was no room for them
abbrev pub LacksLines : TurnText → Answer → Type 0
LacksLines text OutOfRange = text.asked ≡ false
LacksLines text SmallBuffer = (text.asked ≡ true) × (text.missed ≡ true)
LacksLines text other = ⊥

-- the lines, or why there are none
abbrev pub LinesTell : TurnText → Result (Bor (List ℕ)) Answer → Type 0
LinesTell text (Ok lines) = HasLines text lines.now
LinesTell text (Err refusal) = LacksLines text refusal

-- as many bytes of the lines as fit, from byte `at` on, stand at the front of the buffer
pub record PutsPart (text : TurnText) (at : ℕ) (buffer : List ℕ) (number : ℕ) (after : List ℕ) : Type 0 where
  pub lines : List ℕ
  pub has_lines : HasLines text lines
  pub written : IsWritten (take (length buffer) (drop at lines)) buffer after
  pub number_is : number ≡ length (take (length buffer) (drop at lines))

-- each answer with its cause, how many bytes were written, and the buffer after it
abbrev pub PartTells : TurnText → ℕ → List ℕ → Answer → ℕ → List ℕ → Type 0
PartTells text at buffer Done number after = PutsPart text at buffer number after
PartTells text at buffer refusal number after = LacksLines text refusal × (number ≡ 0) × (after ≡ buffer)
