-- Parcels of context data: which come with entries, and where each one is after a call.
use Rattle.std.specs.Prelude.{◌≡◌, ℕ, ◌≤◌, List, ◌++◌, length, filter_map, Option, None}
use Rattle.std.specs.List.Sorted.{IsPermutation}
use Rattle.ids_types.specs.declared.entry.Act.{Act}
use Rattle.ids_types.specs.declared.entry.Act.TheVariants.{Report}
use Rattle.ids_types.specs.declared.entry.Entry.{Entry}
use Rattle.chain_spec.specs.Items.{kept_parcel}

-- the parcel has at most 1,024 bytes
abbrev pub IsShort : {B : Type 0} → (B → List ℕ) → B → Type 0
IsShort held parcel = length (held parcel) ≤ 1024

-- the parcel that an act keeps
abbrev pub parcel_of : {B : Type 0} → Act B → Option B
parcel_of (Report event count stamp context) = kept_parcel context
parcel_of _ = None

-- the parcels of entries
abbrev pub all_parcels : {B : Type 0} → List (Entry B) → List B
all_parcels items = filter_map (λ entry. parcel_of entry.act) items

-- of the parcels that came and those that were kept before, each is handed back, after what was back already, or
-- is kept now
pub record HandsBack {B : Type 0} (came kept_before kept_now back_before back_now : List B) : Type 0 where
  pub further : List B
  pub back : back_now ≡ back_before ++ further
  pub same : IsPermutation (came ++ kept_before) (further ++ kept_now)
