-- What the steps of a reading found.
use Rattle.text_spec.proofs.Names.{◌≡◌, refl, Option, Some, None, option_map, same_Some, none-some, ◌>>=◌}

-- what two steps found
pub bind_some : {A B : Type 0} (o : Option A) (f : A → Option B) (y : B) → (o >>= f) ≡ Some y → (x : A) × (o ≡ Some x) × (f x ≡ Some y)
bind_some None f y h = absurd (none-some y h)
bind_some (Some x) f y h = (x, refl, h)

-- the value that a map came from
pub mapped_some : {A B : Type 0} (f : A → B) (o : Option A) (y : B) → option_map f o ≡ Some y → (x : A) × (o ≡ Some x) × (f x ≡ y)
mapped_some f None y h = absurd (none-some y h)
mapped_some f (Some x) y h = (x, refl, same_Some (f x) y h)

-- what is not nothing is something
pub is_some : {A : Type 0} (o : Option A) → (o ≡ None → ⊥) → (x : A) × (o ≡ Some x)
is_some None none = absurd (none refl)
is_some (Some x) none = (x, refl)
