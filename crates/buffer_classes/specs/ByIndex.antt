-- Lists whose elements were changed at their places.
use Rattle.std.specs.Prelude.{◌≡◌}
use Rattle.buffer_classes.specs.Names.{ℕ, List, length, some, get_elem?}

-- at each place, what stands there now is so related to what stood there
pub record AllOf {A : Type 0} (R : ℕ → A → A → Type 0) (olds news : List A) : Type 0 where
  pub as_many : length news ≡ length olds
  pub each : (i : ℕ) (old new : A) → get_elem? olds i ≡ some old → get_elem? news i ≡ some new → R i old new
