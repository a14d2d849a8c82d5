-- What unsealing answers to messages of one sealed list, whichever of them come, in whatever order and however often.
use Rattle.std.specs.Prelude.{◌≡◌, ℕ, ◌+◌, ◌<◌, List, length, take, Contains, Result, Ok, Err}
use Rattle.std.specs.List.{AllByRecursion}
use Rattle.ids_frame.specs.{MessageParts, joined}
use Rattle.frame_auth.specs.declared.fault.UnsealFault.{UnsealFault}
use Rattle.frame_auth.specs.declared.fault.UnsealFault.TheVariants as unseals
use Rattle.frame_auth.specs.Sealing.{sealed_from}

-- each message is one of the list
abbrev pub AreOf : (list messages : List MessageParts) → Type 0
AreOf list messages = AllByRecursion (Contains list) messages

-- the messages are the first ones of the list, in its order
abbrev pub AreFirst : (list messages : List MessageParts) → Type 0
AreFirst list messages = messages ≡ take (length messages) list

-- the first message that is not the next one of the list stands after so many bytes
pub record IsOutOfOrder (list messages : List MessageParts) (at : ℕ) : Type 0 where
  pub count : ℕ
  pub some : count < length messages
  pub first : take count messages ≡ take count list
  pub other : take (count + 1) messages ≡ take (count + 1) list → ⊥
  pub place : at ≡ length (joined (take count messages))

-- the messages without their seals, where they are the first ones of the list; else where the first stands that is out of order
abbrev pub AnswersInOrder : (key : List ℕ) (start : ℕ) (signed messages : List MessageParts) → Result (List ℕ) UnsealFault → Type 0
AnswersInOrder key start signed messages (Ok out) =
    AreFirst (sealed_from key start signed) messages × (out ≡ joined (take (length messages) signed))
AnswersInOrder key start signed messages (Err (unseals.Counter at)) = IsOutOfOrder (sealed_from key start signed) messages at
AnswersInOrder key start signed messages answer = ⊥
