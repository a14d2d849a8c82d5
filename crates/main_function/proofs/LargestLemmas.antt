-- The largest of some sizes.
use Rattle.main_function.proofs.Names.{◌≡◌, ℕ, suc, ◌+◌, ◌≤◌, ◌<◌, max, List, [], ◌∷◌, get_or, length, map, take, arith, take_more, AllAdmitted, class_of, spec_sizes, largest_size, refl, IsSpec, map_push, fold, ClassSpec, fold_push, get_elem?, RiseFrom, some}

-- what a largest begins with is not larger, and no size is
begun_with : (first : ℕ) (sizes : List ℕ) → first ≤ fold max first sizes
begun_with first [] = omega arith
begun_with first (size ∷ sizes) = omega (arith, begun_with (max first size) sizes)

pub largest_admits : (first : ℕ) (sizes : List ℕ) → AllAdmitted (λ size. size ≤ fold max first sizes) sizes
largest_admits first (x ∷ sizes) (suc i) size at = largest_admits (max first x) sizes i size at
largest_admits first (x ∷ sizes) i size at = grind (arith, begun_with (max first x) sizes, at)
largest_admits first [] i size at = cc

-- no class is larger than 1,024
pub largest_least : (first : ℕ) (specs : List ClassSpec) → first ≤ 1024 → AllAdmitted IsSpec specs → fold max first (spec_sizes specs) ≤ 1024
largest_least first [] low are = low
largest_least first (spec ∷ specs) low are =
    largest_least (max first spec.size) specs (omega (arith, low, (are 0 spec refl).size)) (λ i. are (suc i))

-- the largest of one class more
pub larger_class : (classes : List (ℕ × ℕ)) (i largest : ℕ) (class : ℕ × ℕ) → i < length classes
    → largest ≡ largest_size (spec_sizes (map class_of (take i classes)))
    → max largest (get_or classes i class).0 ≡ largest_size (spec_sizes (map class_of (take (i + 1) classes)))
larger_class classes i largest class below is = rw (is, take_more classes i class below) (simp (map_push, fold_push))

-- sizes that rise from above a number are larger than it
pub rise_above : (above : ℕ) (sizes : List ℕ) → RiseFrom above sizes → (i size : ℕ) → get_elem? sizes i ≡ some size → above + 1 ≤ size
rise_above above (x ∷ sizes) rise (suc i) size at = omega (arith, rise.0, rise_above x sizes rise.1 i size at)
rise_above above _ rise i size at = grind (arith, rise, at)
