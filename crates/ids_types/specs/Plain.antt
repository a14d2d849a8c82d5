-- Entries whose context bytes are lent.
use Rattle.std.specs.Prelude.{ℕ, List, []}
use Rattle.ids_types.specs.Names.{Carried, Absent, Kept, Missing, Act, Report, State, SetMode, Entry}
use Rattle.ids_types.specs.declared.parcel.Plain.{Plain}
use Rattle.ids_types.specs.Carries.{carried_by, entry_by}

-- the context as bytes
abbrev pub plain_carried : Carried Plain → Carried (List ℕ)
plain_carried c = carried_by (λ p. p.0.now) c

-- the entry with its context as bytes
abbrev pub plain_entry : Entry Plain → Entry (List ℕ)
plain_entry e = entry_by (λ p. p.0.now) e

-- the bytes of context that are kept
abbrev pub carried_bytes : Carried (List ℕ) → List ℕ
carried_bytes Absent = []
carried_bytes (Kept class claim bytes) = bytes
carried_bytes (Missing numbers) = []

-- the bytes of context that the act keeps
abbrev pub act_bytes : Act (List ℕ) → List ℕ
act_bytes (Report event count stamp context) = carried_bytes context
act_bytes (State state) = []
act_bytes (SetMode event mode) = []

-- the bytes of context that the entry keeps
abbrev pub kept_bytes : Entry (List ℕ) → List ℕ
kept_bytes e = act_bytes e.act
