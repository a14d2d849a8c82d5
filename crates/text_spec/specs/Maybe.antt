-- Steps that may find nothing.
use Rattle.std.specs.Prelude.{◌∷◌}
use Rattle.text_spec.specs.Below.{List, [], Option, Some, None}

-- the second step, where the first found something
infixl 10 ◌>>=◌
abbrev pub ◌>>=◌ : {A B : Type 0} → Option A → (A → Option B) → Option B
None >>= f = None
(Some x) >>= f = f x

-- what the first search found, or else the second
abbrev pub or_else : {A : Type 0} → Option A → Option A → Option A
or_else (Some x) other = Some x
or_else None other = other

-- the first element and the rest
abbrev pub first_of : {A : Type 0} → List A → Option (A × List A)
first_of [] = None
first_of (x ∷ xs) = Some (x, xs)

-- the value, where nothing is left
abbrev pub ended : {A B : Type 0} → A → List B → Option A
ended x [] = Some x
ended x (y ∷ ys) = None
