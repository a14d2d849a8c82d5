-- What a handle is opened to.
use Rattle.std.specs.Prelude.{Option, Some, None}
use Rattle.std.specs.declared.boxed.Box.{Box}
use Rattle.idsm_c.specs.declared.loose.Loose.{Loose}

-- the value of a loose box, where there is one
abbrev pub as_open : {X A : Type 0} → Option (Loose X A) → Option X
as_open None = None
as_open (Some loose) = Some loose.value

-- the value of a box, where there is one
abbrev pub as_boxed : {X A : Type 0} → Option (Box X A) → Option X
as_boxed None = None
as_boxed (Some boxed) = Some boxed.value
