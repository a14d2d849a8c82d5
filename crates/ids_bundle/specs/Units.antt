-- A unit: messages packed whole, for a bus whose frames have one size. The layout is this project's own.
use Rattle.std.specs.Prelude.{◌≡◌, ℕ, ◌+◌, ◌<◌, ◌≤◌, ◌^◌, List, [], ◌∷◌, ◌++◌, length, Result, Ok, Err}
use Rattle.std.specs.Int.{w16, to_be_bytes, from_be_bytes}
use Rattle.std.specs.List.{flat_map, AllByRecursion}
use Rattle.ids_frame.specs.{MessageParts, joined, AreMessages, IsJoined}

-- messages that travel together
abbrev pub Run : Type 0
Run = List MessageParts

-- how many bytes they have
abbrev pub load : Run → ℕ
load run = length (joined run)

-- the messages of runs, one after the other
abbrev pub all_of : List Run → List MessageParts
all_of runs = flat_map (λ run. run) runs

-- a run's unit: how many messages and how many bytes, in two bytes each, and then the messages
abbrev pub unit : Run → List ℕ
unit run = to_be_bytes w16 (length run) ++ to_be_bytes w16 (load run) ++ joined run

-- the units of runs, one after the other
abbrev pub units : List Run → List ℕ
units runs = flat_map unit runs

-- there is a message, the layout of a message can say each, and that of a unit how many bytes they have
pub record FitsUnit (run : Run) : Type 0 where
  pub fit : AreMessages run
  pub some : 1 ≤ length run
  pub few : load run < 2 ^ 16

-- the bytes are a unit
abbrev pub IsUnit : List ℕ → Type 0
IsUnit bytes = (run : Run) × FitsUnit run × (bytes ≡ unit run)

-- the bytes are so many messages
abbrev pub AreSoMany : ℕ → List ℕ → Type 0
AreSoMany number bytes = (run : Run) × IsJoined bytes run × (length run ≡ number)

-- a head that says so many messages and bytes stands before these bytes in a unit
abbrev pub IsBody : ℕ → ℕ → List ℕ → Type 0
IsBody number size bytes = (0 < number) × (size ≡ length bytes) × AreSoMany number bytes

-- how many bytes the first four say that the unit has, and 4 where fewer are there
abbrev pub unit_size : List ℕ → ℕ
unit_size (a ∷ b ∷ c ∷ d ∷ body) = 4 + from_be_bytes w16 (c ∷ d ∷ [])
unit_size few = 4

-- the bytes are too few for a unit
abbrev pub IsPart : List ℕ → Type 0
IsPart bytes = length bytes < unit_size bytes

-- the bytes are enough for a unit, and begin with none
pub record IsBad (bytes : List ℕ) : Type 0 where
  pub whole : unit_size bytes ≤ length bytes
  pub none : (run : Run) (more : List ℕ) → FitsUnit run → bytes ≡ unit run ++ more → ⊥

-- ---- values whose texts stand one after the other in bytes, and what reading them answers

-- the bytes are the texts of these values
pub record AreTexts {A : Type 0} (text : A → List ℕ) (Can : A → Type 0) (bytes : List ℕ) (values : List A) : Type 0 where
  pub fit : AllByRecursion Can values
  pub whole : bytes ≡ flat_map text values

-- after the texts of values there are bytes, and reading stops before them, for a cause at their place
pub record StopsBehind {A : Type 0} (text : A → List ℕ) (Can : A → Type 0) (StopsAt : ℕ → List ℕ → Type 0) (bytes : List ℕ) : Type 0 where
  pub front : List A
  pub fit : AllByRecursion Can front
  pub rest : List ℕ
  pub some : 1 ≤ length rest
  pub whole : bytes ≡ flat_map text front ++ rest
  pub cause : StopsAt (length (flat_map text front)) rest

-- the values, or why reading stops
abbrev pub Reads : {A Fault : Type 0} → (A → List ℕ) → (A → Type 0) → (Fault → ℕ → List ℕ → Type 0) → List ℕ → Result (List A) Fault → Type 0
Reads text Can StopsAt bytes (Ok values) = AreTexts text Can bytes values
Reads text Can StopsAt bytes (Err fault) = StopsBehind text Can (StopsAt fault) bytes
