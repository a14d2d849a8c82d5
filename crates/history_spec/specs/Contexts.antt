-- Which claims of context data buffers a history has, and which missing contexts are legal.
use Rattle.std.specs.Prelude.{◌≡◌, ℕ, ◌+◌, ◌<◌, ◌≤◌, ◌==◌, nat_lt, if◌then◌else◌, Bool, true, false, List, [], ◌∷◌, length, filter, map, slice_index_or}
use Rattle.std.specs.List.{flat_map}
use mathlib.Core.Option.{some}
use lib.ListN.{get_elem?}
use Rattle.history_spec.specs.Names.{ClassSpec, Carried, Absent, Kept, Missing, Act, Report, State, SetMode, Entry}
use Rattle.ids_types.specs.Turns.{Turn, entries_of}
use Rattle.ids_config.specs.Parts.{Parts, class_of}
use Rattle.history_spec.specs.Losses.{entries_by}
use Rattle.history_spec.specs.Orders.{StandsIn, times, once_below, RiseFrom}

-- class i, from 0
abbrev pub class_at : Parts → ℕ → ClassSpec
class_at config i = slice_index_or config.classes i (class_of (0, 0))

-- the sizes of the classes
abbrev pub sizes_in : Parts → List ℕ
sizes_in config = map (λ (class : ClassSpec). class.size) config.classes

-- how many classes are too small for so many bytes: the first ones, since sizes rise
abbrev pub too_small : Parts → ℕ → ℕ
too_small config bytes = length (filter (λ (class : ClassSpec). nat_lt class.size bytes) config.classes)

-- the claim of class i by which a context is kept
abbrev pub claim_in : ℕ → Carried (List ℕ) → List ℕ
claim_in i Absent = []
claim_in i (Kept class claim bytes) = if class == i then claim ∷ [] else []
claim_in i (Missing numbers) = []

-- the claim of class i by which an act keeps its context
abbrev pub claim_of : ℕ → Act (List ℕ) → List ℕ
claim_of i (Report event count stamp context) = claim_in i context
claim_of i (State state) = []
claim_of i (SetMode event mode) = []

-- the claims of class i by which entries keep their contexts
abbrev pub claims_of : ℕ → List (Entry (List ℕ)) → List ℕ
claims_of i entries = flat_map (λ e. claim_of i e.act) entries

-- the context misses buffers
abbrev pub is_missing : Carried (List ℕ) → Bool
is_missing (Missing numbers) = true
is_missing other = false

-- the act misses its context
abbrev pub misses_context : Act (List ℕ) → Bool
misses_context (Report event count stamp context) = is_missing context
misses_context other = false

-- the context misses buffers, with these numbers
abbrev pub MissesWith : Carried (List ℕ) → List ℕ → Type 0
MissesWith (Missing its) numbers = its ≡ numbers
MissesWith other numbers = ⊥

-- the act misses its context, with these numbers
abbrev pub Misses : Act (List ℕ) → List ℕ → Type 0
Misses (Report event count stamp context) numbers = MissesWith context numbers
Misses other numbers = ⊥

-- the claims of each class are 0, 1, 2 and so on, each once, and those of one caller rise as its tickets do
pub record AreClaims (entries : List (Entry (List ℕ))) : Type 0 where
  pub each_claim : (i claim : ℕ) → times claim (claims_of i entries) ≡ once_below claim (length (claims_of i entries))
  pub claims_rise : (i caller : ℕ) → RiseFrom 0 (claims_of i (entries_by caller entries))

-- no buffer of class i was free for the call: so many had been claimed, as many as there are or more
pub record IsLegalMiss (config : Parts) (turns : List Turn) (caller call i claimed : ℕ) : Type 0 where
  pub all_out : (class_at config i).number ≤ claimed
  pub by_entries : (claim : ℕ) → claim < claimed → StandsIn (claims_of i (entries_of turns)) claim
  pub earlier : (e : Entry (List ℕ)) (claim : ℕ) → StandsIn (entries_of turns) e → e.caller ≡ caller → e.call < call
      → StandsIn (claim_of i e.act) claim → claim < claimed
  pub later : (e : Entry (List ℕ)) (claim : ℕ) → StandsIn (entries_of turns) e → e.caller ≡ caller → call < e.call
      → StandsIn (claim_of i e.act) claim → claimed ≤ claim

-- a missing context of so many bytes has one claimed number for each class that would have fitted, and no other
pub record IsLegalMissing (config : Parts) (turns : List Turn) (caller call bytes : ℕ) (numbers : List ℕ) : Type 0 where
  pub each_class : too_small config bytes + length numbers ≡ length config.classes
  pub each_miss : (k claimed : ℕ) → get_elem? numbers k ≡ some claimed
      → IsLegalMiss config turns caller call (too_small config bytes + k) claimed
