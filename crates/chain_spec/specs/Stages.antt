-- Stages: lists that grow by what each new element adds. A list stands with its newest element first, so
-- what came before an element is the rest of the list.
use Rattle.std.specs.Prelude.{ℕ, ◌<◌, ◌∷◌, ◌++◌, List, [], Bool, Option, Some, None, length, option_to_list, option_map, AllPairs, if◌then◌else◌}

-- what the elements added, each by those before it
abbrev pub added : {A B : Type 0} → (List A → A → Option B) → List A → List B
added stage [] = []
added stage (x ∷ before) = option_to_list (stage before x) ++ added stage before

-- what they added, each with its place: how many elements came before it
abbrev pub placed : {A B : Type 0} → (List A → A → Option B) → List A → List (ℕ × B)
placed stage [] = []
placed stage (x ∷ before) = option_to_list (option_map (λ y. (length before, y)) (stage before x)) ++ placed stage before

-- of any two the newer one has the greater place, so no two have one
abbrev pub HaveOwnPlaces : {B : Type 0} → List (ℕ × B) → Type 0
HaveOwnPlaces placed = AllPairs (λ newer older. older.0 < newer.0) placed

-- the element, if the test holds
abbrev pub where_true : {A : Type 0} → Bool → A → Option A
where_true test x = if test then Some x else None

-- the elements that pass, each by a test that sees all before it and those of them that passed
abbrev pub passed : {A : Type 0} → (List A → List A → A → Bool) → List A → List A
passed test [] = []
passed test (x ∷ before) = option_to_list (where_true (test before (passed test before) x) x) ++ passed test before

-- the newest element, or else this one
abbrev pub newest_else : {A : Type 0} → A → List A → A
newest_else x [] = x
newest_else x (y ∷ before) = y

-- the list after these came, one after another
abbrev pub with_all : {A : Type 0} → List A → List A → List A
with_all before [] = before
with_all before (x ∷ xs) = with_all (x ∷ before) xs
