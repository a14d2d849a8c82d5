-- What putting a unit of messages into a buffer answers.
use Rattle.std.specs.Prelude.{◌≡◌, ℕ, List, ◌++◌, length, drop, Result, Ok, Err}
use Rattle.ids_bundle.specs.Units.{Run, load, unit}
use Rattle.ids_bundle.specs.FirstUnit.{Puts}
use Rattle.ids_bundle.specs.declared.fault.UnitFault.{UnitFault}
use Rattle.ids_bundle.specs.declared.fault.UnitFault.TheVariants.{SmallSize, NoMessages, First, Short}
use Rattle.idsm_api.specs.{code_of}
use Rattle.idsm_api.specs.declared.answer.Answer.{Answer}
use Rattle.idsm_api.specs.declared.answer.Answer.TheVariants.{Done, OutOfRange, SmallBuffer, BadMessage}

-- the answer and the number of bytes that are told of the unit of a run, or of why there is none
abbrev pub unit_told : Result Run UnitFault → Answer × ℕ
unit_told (Ok run) = (Done, length (unit run))
unit_told (Err SmallSize) = (OutOfRange, 0)
unit_told (Err NoMessages) = (OutOfRange, 0)
unit_told (Err (First fault)) = (BadMessage, 0)
unit_told (Err (Short wanted)) = (SmallBuffer, wanted)

-- how many bytes of messages it took
abbrev pub unit_took : Result Run UnitFault → ℕ
unit_took (Ok run) = load run
unit_took (Err fault) = 0

-- what the buffer has then: the unit at its front, or what it had
abbrev pub unit_in : Result Run UnitFault → List ℕ → List ℕ
unit_in (Ok run) old = unit run ++ drop (length (unit run)) old
unit_in (Err fault) old = old

-- the first unit of the messages is put into the buffer, or none is, for the reason that there is
pub record PutsUnit (size : ℕ) (messages old : List ℕ) (code bytes taken : ℕ) (new : List ℕ) : Type 0 where
  pub answer : Result Run UnitFault
  pub puts : Puts size (length old) messages answer
  pub code_is : code ≡ code_of (unit_told answer).0
  pub bytes_is : bytes ≡ (unit_told answer).1
  pub taken_is : taken ≡ unit_took answer
  pub new_is : new ≡ unit_in answer old
