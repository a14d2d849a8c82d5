-- What the calls of a caller asked of a class of context data buffers.
use Rattle.std.specs.Prelude.{◌≡◌, ℕ, suc, ◌-◌, ◌<◌, ◌≤◌, ◌⊎◌, ◌==◌, nat_lt, if◌then◌else◌, Option, Some, List, [], ◌∷◌, ◌++◌, length, filter}
use Rattle.history_spec.specs.Names.{Carried, Absent, Kept, Missing, Act, Report}
use Rattle.ids_types.specs.Fates.{Fate, lost, accepted}

-- each call of a caller: the act that was accepted, nothing where the call was lost
abbrev pub Calls : Type 0
Calls = List (Option (Act (List ℕ)))

-- the number of class i, where numbers are those of the classes from the first one on
abbrev pub lost_number : ℕ → List ℕ → ℕ → List Fate
lost_number first [] i = []
lost_number first (number ∷ numbers) i = if i == first then lost number ∷ [] else lost_number (suc first) numbers i

-- how many classes of these sizes are too small for so many bytes: the first ones, if sizes rise
abbrev pub small_of : List ℕ → ℕ → ℕ
small_of sizes bytes = length (filter (λ size. nat_lt size bytes) sizes)

-- a context that is kept by this claim of a class asked the classes from the first that fits up to that one, each once. The smaller ones had none free
pub record KeptAsks (first i class claim : ℕ) (asks : List Fate) : Type 0 where
  pub fits : first ≤ class
  pub got : i ≡ class → asks ≡ accepted claim ∷ []
  pub in_vain : first ≤ i → i < class → (claimed : ℕ) × (asks ≡ lost claimed ∷ [])
  pub no_other : (i < first) ⊎ (class < i) → asks ≡ []

-- what a context asked of class i, where classes have these sizes; the numbers of a missing one are those of the largest classes
abbrev pub CarriedAsks : List ℕ → ℕ → Carried (List ℕ) → List Fate → Type 0
CarriedAsks sizes i Absent asks = asks ≡ []
CarriedAsks sizes i (Kept class claim bytes) asks = KeptAsks (small_of sizes (length bytes)) i class claim asks
CarriedAsks sizes i (Missing numbers) asks = asks ≡ lost_number (length sizes - length numbers) numbers i

-- what a call asked of class i: one that was lost, and a control, ask nothing
abbrev pub CallAsks : List ℕ → ℕ → Option (Act (List ℕ)) → List Fate → Type 0
CallAsks sizes i (Some (Report event count stamp context)) asks = CarriedAsks sizes i context asks
CallAsks sizes i other asks = asks ≡ []

-- what the calls asked of class i, call by call
abbrev pub Follows : List ℕ → ℕ → Calls → List Fate → Type 0
Follows sizes i [] asks = asks ≡ []
Follows sizes i (call ∷ calls) asks =
    (here : List Fate) × (later : List Fate) × (asks ≡ here ++ later) × CallAsks sizes i call here × Follows sizes i calls later
