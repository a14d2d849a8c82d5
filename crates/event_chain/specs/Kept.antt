-- What slots keep is what the open windows keep for which they stand. The chain's law stands on it, so that its proof is here.
use Rattle.std.proofs.Common.{append-nil, arith, ◌≡◌, ℕ, suc, zero, ◌+◌, ◌<◌, List, [], ◌∷◌, length, map, flat_map, refl}
use Rattle.std.proofs.Math.Nat.{zero-add}
use Rattle.std.proofs.lemmas.Grind.{common_steps}
use Rattle.std.proofs.lemmas.List.Sorted.{IsPermutation-refl}
use Rattle.event_chain.specs.Names.{range_with_len, InWindow, reached, sampled, closing_ticks, all_kept, slot_at, slots_by, WindowsStand, Parts, event_at, Slot, Moment, slot_of}
use Rattle.filter_chain.specs.Kept.{AreAmong, contexts_after, open_context}

-- the bytes of what slots keep
all_by : {B : Type 0} (held : B → List ℕ) (slots : List (Slot B)) → map held (all_kept slots) ≡ all_kept (slots_by held slots)
all_by held [] = refl
all_by held (slot ∷ slots) = grind (arith, common_steps, all_by held slots)

-- what slots keep from an event on
all_from : (config : Parts) (moments : List Moment) (first : ℕ) (slots : List (Slot (List ℕ)))
    → ((k : ℕ) → k < length slots → slot_at slots k ≡ slot_of config moments (reached config InWindow moments) (first + k))
    → all_kept slots ≡ flat_map (λ event. open_context (event_at config event).aggregate (closing_ticks event moments) (sampled config event moments))
    (range_with_len first (length slots))
all_from config moments first [] each = refl
all_from config moments first (slot ∷ slots) each =
    let items = reached config InWindow moments in
    let later : (k : ℕ) → k < length slots → slot_at slots k ≡ slot_of config moments items (first + 1 + k) = λ k within.
    let on : first + suc k ≡ first + 1 + k = omega arith in rw on at (each (suc k) (omega (arith, within))) in
    grind (arith, each zero, all_from config moments (first + 1) slots later)

-- the parcels of slots, as bytes, are what the open windows keep, event by event
pub kept_are : {B : Type 0} (held : B → List ℕ) (config : Parts) (moments : List Moment) (slots : List (Slot B))
    → WindowsStand config moments (reached config InWindow moments) (slots_by held slots) → map held (all_kept slots) ≡ contexts_after config moments
kept_are held config moments slots stands =
    let items = reached config InWindow moments in
    let each : (k : ℕ) → k < length (slots_by held slots) → slot_at (slots_by held slots) k ≡ slot_of config moments items (0 + k) = λ k within.
    rw zero-add (stands.each k within) in
    rw (all_by held slots, all_from config moments 0 (slots_by held slots) each, stands.events) refl

-- so they are among them
pub kept_among : {B : Type 0} (held : B → List ℕ) (config : Parts) (moments : List Moment) (slots : List (Slot B))
    → WindowsStand config moments (reached config InWindow moments) (slots_by held slots) → AreAmong (contexts_after config moments) (map held (all_kept slots))
kept_among held config moments slots stands =
    record { others = []; same = rw (append-nil, kept_are held config moments slots stands) (IsPermutation-refl (contexts_after config moments)) }
