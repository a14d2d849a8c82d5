-- Lists of a history that has one turn more.
use Rattle.std.specs.Prelude.{◌≡◌, List, ◌∷◌, ◌++◌}
use Rattle.ids_types.specs.Turns.{Turn}

-- a list ends with another: newer elements stand before the older ones
pub record EndsWith {A : Type 0} (longer shorter : List A) : Type 0 where
  pub further : List A
  pub whole : longer ≡ further ++ shorter

-- a list begins with another
pub record BeginsWith {A : Type 0} (longer shorter : List A) : Type 0 where
  pub further : List A
  pub whole : longer ≡ shorter ++ further

-- a turn more only adds newer elements to what a list says of a history
abbrev pub Grows : {A : Type 0} → (List Turn → List A) → Type 0
Grows told = (turn : Turn) (before : List Turn) → EndsWith (told (turn ∷ before)) (told before)

-- a turn more only adds elements at the end
abbrev pub GrowsAtEnd : {A : Type 0} → (List Turn → List A) → Type 0
GrowsAtEnd told = (turn : Turn) (before : List Turn) → BeginsWith (told (turn ∷ before)) (told before)
