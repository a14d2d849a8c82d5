-- The classes of context data buffers: their sizes rise, and each is a ring.
use Rattle.std.specs.Prelude.{◌≡◌, ◌<◌, ◌≤◌, if◌then◌else◌, ◌∷◌}
use Rattle.buffer_classes.specs.Names.{ℕ, suc, nat_lt, List, [], length, map, ⊤, some, get_elem?, ring_terms, Class, Classes, ClassTerms}

-- the sizes of the classes, in order
abbrev pub class_sizes : Classes → List ℕ
class_sizes classes = map (λ (class : Class). class.size) classes.classes.items

-- the place of the first class whose buffers hold so many bytes, or the number of classes where none does
abbrev pub first_fitting : ℕ → List ℕ → ℕ
first_fitting bytes [] = 0
first_fitting bytes (size ∷ sizes) = if nat_lt size bytes then suc (first_fitting bytes sizes) else 0

-- the sizes rise strictly, from above this one on
abbrev pub RiseFrom : ℕ → List ℕ → Type 0
RiseFrom above [] = ⊤
RiseFrom above (size ∷ sizes) = (above < size) × RiseFrom size sizes

-- what is fixed for a class of this place and size
abbrev pub class_terms : ℕ → ℕ → ClassTerms
class_terms class size = record { class = class; size = size }

-- at most four classes of rising sizes, each a ring of its own
pub record AreClasses (classes : Classes) : Type 0 where
  pub few : length classes.classes.items ≤ 4
  pub rise : RiseFrom 0 (class_sizes classes)
  pub terms : (i : ℕ) (class : Class) → get_elem? classes.classes.items i ≡ some class → ring_terms class.ring ≡ class_terms i class.size
