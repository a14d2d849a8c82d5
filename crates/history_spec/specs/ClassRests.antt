-- Context data buffers at rests, and the contexts that went without one between two of them.
use Rattle.std.specs.Prelude.{◌≡◌, ℕ, zero, suc, ◌+◌, ◌-◌, ◌<◌, ◌≤◌, ◌&&◌, max, nat_lt, nat_le, if◌then◌else◌, List, length, filter, take}
use mathlib.Core.Option.{some}
use lib.ListN.{get_elem?}
use Rattle.history_spec.specs.Names.{Carried, Absent, Kept, Missing, Act, Report, Entry}
use Rattle.ids_types.specs.Fates.{Fate, lost}
use Rattle.ids_types.specs.Turns.{Turn, entries_of}
use Rattle.ids_config.specs.Parts.{Parts}
use Rattle.history_spec.specs.Contexts.{sizes_in, too_small, claims_of}
use Rattle.history_spec.specs.Follows.{Calls, Follows}
use Rattle.history_spec.specs.Orders.{StandsIn}
use Rattle.history_spec.specs.Rests.{Rest, turns_between}

-- the context of an act
abbrev pub context_of : Act (List ℕ) → Carried (List ℕ)
context_of (Report event count stamp context) = context
context_of other = Absent

-- the smallest class that fits a context, by its index; as many as there are classes if none does, or there is no context
abbrev pub fitting_class : Parts → Carried (List ℕ) → ℕ
fitting_class config Absent = length config.classes
fitting_class config (Kept class claim bytes) = too_small config (length bytes)
fitting_class config (Missing numbers) = length config.classes - length numbers

-- the class that keeps it; as many as there are classes if none does
abbrev pub kept_class : Parts → Carried (List ℕ) → ℕ
kept_class config (Kept class claim bytes) = class
kept_class config other = length config.classes

-- how many of the entries need class i or a larger one for their context
abbrev pub needing : Parts → ℕ → List (Entry (List ℕ)) → ℕ
needing config i entries = length (filter (λ e. let fitting = fitting_class config (context_of e.act) in
    nat_le i fitting && nat_lt fitting (length config.classes)) entries)

-- how many of them have a context that no class keeps, though one fits it
abbrev pub missing_in : Parts → List (Entry (List ℕ)) → ℕ
missing_in config entries = length (filter (λ e. let context = context_of e.act in
    nat_lt (fitting_class config context) (length config.classes) && nat_le (length config.classes) (kept_class config context)) entries)

-- a rest, how many buffers of each class had been offered, and how often each caller had asked each class
pub record ClassRest : Type 0 where
  pub rest : Rest
  pub offered : ℕ → ℕ
  pub asks : ℕ → ℕ → ℕ

-- how many buffers of class i the entries up to the rest claimed
abbrev pub claimed_at : List Turn → ClassRest → ℕ → ℕ
claimed_at turns at i = length (claims_of i (entries_of (take at.rest.turns turns)))

-- how many buffers of class i were free at the rest
abbrev pub free_at : List Turn → ClassRest → ℕ → ℕ
free_at turns at i = at.offered i - claimed_at turns at i

-- all claims so far are over at the rest, and what comes later knows of them; the log is each caller's of each class
pub record ClassesRested (turns : List Turn) (log : ℕ → ℕ → List Fate) (at : ClassRest) : Type 0 where
  -- a claim that was lost by then saw no more claims than the entries up to the rest have
  pub settled : (caller i place claimed : ℕ) → place < at.asks caller i → get_elem? (log caller i) place ≡ some (lost claimed)
      → claimed ≤ claimed_at turns at i
  -- one that was lost later saw claimed all that had been offered by then
  pub sees : (caller i place claimed : ℕ) → at.asks caller i ≤ place → get_elem? (log caller i) place ≡ some (lost claimed)
      → at.offered i ≤ claimed

-- what each caller had asked of each class by the rest is what its calls by then show
pub record AskedBy (config : Parts) (calls : ℕ → Calls) (log : ℕ → ℕ → List Fate) (at : ClassRest) : Type 0 where
  pub asked : (caller i : ℕ) → Follows (sizes_in config) i (take (at.rest.calls caller) (calls caller)) (take (at.asks caller i) (log caller i))
  pub within : (caller i : ℕ) → at.asks caller i ≤ length (log caller i)

-- the entries of the turns between two rests
abbrev pub entries_between : List Turn → ClassRest → ClassRest → List (Entry (List ℕ))
entries_between turns first second = entries_of (turns_between first.rest second.rest turns)

-- each entry between two rests asked the classes that fit its context from the smallest on, until one kept it
pub record AskInOrder (config : Parts) (turns : List Turn) (log : ℕ → ℕ → List Fate) (first second : ClassRest) : Type 0 where
  pub turns_rise : first.rest.turns ≤ second.rest.turns
  pub fits : (e : Entry (List ℕ)) → StandsIn (entries_between turns first second) e
      → fitting_class config (context_of e.act) ≤ kept_class config (context_of e.act)
  -- its caller lost a claim between them at each class that fits and is smaller than the one that kept it
  pub in_vain : (e : Entry (List ℕ)) (i : ℕ) → StandsIn (entries_between turns first second) e
      → fitting_class config (context_of e.act) ≤ i → i < kept_class config (context_of e.act) → (place : ℕ) × (claimed : ℕ)
      × (first.asks e.caller i ≤ place) × (place < second.asks e.caller i) × (get_elem? (log e.caller i) place ≡ some (lost claimed))

-- the sum of what the classes from i on have, of so many classes
abbrev pub from_class : ℕ → ℕ → (ℕ → ℕ) → ℕ
from_class i zero f = 0
from_class i (suc class) f = from_class i class f + (if nat_le i class then f class else 0)

-- the greatest of what so many classes have
abbrev pub greatest : ℕ → (ℕ → ℕ) → ℕ
greatest zero f = 0
greatest (suc class) f = max (greatest class f) (f class)

-- how many more entries between two rests need class i or a larger one than buffers of these were free at the first
abbrev pub too_many : Parts → List Turn → ClassRest → ClassRest → ℕ → ℕ
too_many config turns first second i =
    needing config i (entries_between turns first second) - from_class i (length config.classes) (free_at turns first)
