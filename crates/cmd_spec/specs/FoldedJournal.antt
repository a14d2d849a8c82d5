-- Which journals `fold` folds: what they say of held-back events has to be the chain's own number.
use Rattle.std.specs.Prelude.{if◌then◌else◌, ◌+◌, ◌==◌, ◌∷◌}
use Rattle.cmd_spec.specs.Names.{BadLine, Err, List, None, Ok, Option, Parts, Result, Some, Told, Turn, handed_by, journal_in, length, ℕ}

-- the next step, where nothing was refused yet
infixl 10 ◌>>=◌
abbrev pub ◌>>=◌ : {A B E : Type 0} → Result A E → (A → Result B E) → Result B E
(Ok x) >>= f = f x
(Err e) >>= f = Err e

-- how many held-back events each turn has to tell: the first of them 0, and each other what the chain hands
-- on to it from the turn before
abbrev pub due_to : Parts → List Turn → List ℕ
due_to config turns = 0 ∷ handed_by config turns

-- the line of the first turn that tells another number than is due to it, where the first turn's line has
-- this number
abbrev pub held_back_line : ℕ → List ℕ → List Turn → Option ℕ
held_back_line n (due ∷ dues) (turn ∷ turns) =
    if turn.head.limited == due then held_back_line (n + (1 + length turn.entries)) dues turns else Some n
held_back_line n dues turns = None

-- what a journal tells, unless the turn of this line tells another number than the chain's: it has fault 8
abbrev pub unless_held_back : Told → Option ℕ → Result Told BadLine
unless_held_back told None = Ok told
unless_held_back told (Some line) = Err (record { line = line; fault = 8 })

-- what the text tells, or its first bad line; fault 8 is sought where no line has a fault 1 to 7
abbrev pub folded_in : Parts → List ℕ → Result Told BadLine
folded_in config text =
    journal_in config text >>= λ told. unless_held_back told (held_back_line 1 (due_to config told.turns) told.turns)
