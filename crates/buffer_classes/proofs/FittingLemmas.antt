-- Which class is the first that fits.
use Rattle.buffer_classes.proofs.Names.{◌≡◌, ℕ, zero, suc, ◌<◌, ◌≤◌, List, [], ◌∷◌, length, get_or, map, drop, ◌+◌, refl, arith, add-one, at_index, drop_at, RiseFrom, first_fitting, Class, if◌then◌else◌, length-map, class_sizes, Classes, some, nat_lt, get_elem?}

-- each later size is above the ones before it, and a class from the first fitting one on fits
pub fits_from : (bytes above i size : ℕ) (sizes : List ℕ) → RiseFrom above sizes → get_elem? sizes i ≡ some size
    → (above < size) × (first_fitting bytes sizes ≤ i → bytes ≤ size)
fits_from bytes above i size [] rise e = cc
fits_from bytes above zero size (x ∷ sizes) rise e = grind arith
fits_from bytes above (suc i) size (x ∷ sizes) rise e = grind (arith, rise.0, fits_from bytes x i size sizes rise.1 e)

-- as many sizes as classes
pub many_sizes : (classes : Classes) → length (class_sizes classes) ≡ length classes.classes.items
many_sizes classes = length-map classes.classes.items (λ (class : Class). class.size)

-- it is one of the classes, or after the last
pub first_within : (bytes : ℕ) (sizes : List ℕ) → first_fitting bytes sizes ≤ length sizes
first_within bytes [] = omega arith
first_within bytes (size ∷ sizes) = grind (arith, first_within bytes sizes)

-- the first that fits among the classes from place i on
abbrev pub first_from : ℕ → ℕ → List Class → ℕ
first_from bytes i xs = first_fitting bytes (map (λ (class : Class). class.size) (drop i xs))

pub fits_at : (bytes i : ℕ) (xs : List Class) (class : Class) → i < length xs → class ≡ get_or xs i class
    → first_from bytes i xs ≡ (if nat_lt class.size bytes then suc (first_from bytes (i + 1) xs) else 0)
fits_at bytes i xs class low at = rw (drop_at xs i class (at_index xs i class low at), add-one i) refl
