-- Lists by stages, and how they grow.
use Rattle.chain_spec.proofs.Names.{◌≡◌, ◌<◌, List, [], ◌∷◌, ◌++◌, length, map, filter, Bool, Option, Some, None, ◌⊎◌, inl, inr, refl, ap, ◌∙◌, arith, map-append, filter-append, AllPairs-cons, EndsWith, placed, HaveOwnPlaces, with_all, All, All-cons, All-nil}

-- there is nothing, or something
pub cases_Option : {A : Type 0} (o : Option A) → (o ≡ None) ⊎ ((x : A) × (o ≡ Some x))
cases_Option None = inl refl
cases_Option (Some x) = inr (x, refl)

-- elements that came one after another, in two parts
pub with_all-append : {A : Type 0} (before xs ys : List A) → with_all before (xs ++ ys) ≡ with_all (with_all before xs) ys
with_all-append before [] ys = refl
with_all-append before (x ∷ xs) ys = with_all-append (x ∷ before) xs ys

-- what each of some elements keeps, all of them keep
pub all_keep : {A B : Type 0} (Holds : List A → Type 0) (f : B → A) → ((y : B) (before : List A) → Holds before → Holds (f y ∷ before))
    → (ys : List B) (before : List A) → Holds before → Holds (with_all before (map f ys))
all_keep Holds f keeps [] before h = h
all_keep Holds f keeps (y ∷ ys) before h = all_keep Holds f keeps ys (f y ∷ before) (keeps y before h)

-- ---- longer lists

-- what a test keeps of a longer list
pub filter_grows : {A : Type 0} (test : A → Bool) (longer shorter : List A) → EndsWith longer shorter → EndsWith (filter test longer)
    (filter test shorter)
filter_grows test longer shorter ends =
    record { further = filter test ends.further; whole = ap (filter test) ends.whole ∙ filter-append test ends.further shorter }

-- a function over a longer list
pub map_grows : {A B : Type 0} (f : A → B) (longer shorter : List A) → EndsWith longer shorter → EndsWith (map f longer) (map f shorter)
map_grows f longer shorter ends =
    record { further = map f ends.further; whole = ap (map f) ends.whole ∙ map-append f ends.further shorter }

-- ---- places

-- the places lie below the number of elements, and each newer one is the greater
places_fall : {A B : Type 0} (stage : List A → A → Option B) (xs : List A) → All (λ p. p.0 < length xs) (placed stage xs) × HaveOwnPlaces (placed stage xs)
places_fall stage [] = (All-nil _, λ i j d less within. absurd (omega arith))
places_fall stage (x ∷ before) = grind (arith, All-cons, AllPairs-cons, places_fall stage before)

pub own_places : {A B : Type 0} (stage : List A → A → Option B) (xs : List A) → HaveOwnPlaces (placed stage xs)
own_places stage xs = (places_fall stage xs).1
