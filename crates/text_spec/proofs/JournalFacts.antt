-- A line without a fault: what holds of it, and what it adds to the lines before it.
use Rattle.text_spec.proofs.Names.{◌≡◌, ◌<◌, ◌≤◌, ◌∷◌, ◌++◌, a_number, ℕ, true, List, [], length, map, sym, ap, append_assoc, arith, Ok, slice_index, flat_map, append-nil, flat_map_more, map-append, nil_from_length, Parts, is_sensor, Turn, begun, extended, with_entry, IsExactContext, AreExact, Past, is_claim, is_call, is_context, is_act, has_event, entry_fault, fault_of, next, entry_of, Carried, Absent, Kept, Missing, Act, Report, Entry, Line, begins, enters, loses, act_fields, fields_of, turn_told, lines_told}
use Rattle.text_spec.proofs.WordsLemmas.{all_from}

-- what holds of an entry without a fault
pub record EntryPasses (config : Parts) (past : Past) (entry : Entry (List ℕ)) : Type 0 where
  pub some : 0 < length past.told.turns
  pub no_losses : past.told.losses ≡ []
  pub call : is_call entry.caller entry.call ≡ true
  pub caller : entry.caller ≤ 31
  pub act : is_act entry.act ≡ true
  pub event : has_event config entry.act ≡ true
  pub rises : slice_index past.calls entry.caller ≤ entry.call
  pub few : past.entries < 1024

pub entry_passes : (config : Parts) (past : Past) (entry : Entry (List ℕ)) → entry_fault config past entry ≡ Ok tt → EntryPasses config past entry
entry_passes config past entry none = record {
  some = grind (arith, none);
  no_losses = nil_from_length past.told.losses (grind (arith, none));
  call = grind (arith, none);
  caller = grind (arith, none);
  act = grind (arith, none);
  event = grind (arith, none);
  rises = grind (arith, none);
  few = grind (arith, none);
}

-- ---- its numbers are told as they are

exact_context : (context : Carried (List ℕ)) → is_context context ≡ true → IsExactContext context
exact_context Absent is = tt
exact_context (Kept class claim bytes) is = grind (arith, is)
exact_context (Missing numbers) is = all_from is_claim a_number.Exact numbers (λ n one. grind (arith, one)) is

-- an event that sensors report is there
pub sensor_is_there : (config : Parts) (k : ℕ) → is_sensor config k ≡ true → k < length config.events
sensor_is_there config k is = grind (arith, is)

exact_act : (config : Parts) (past : Past) (caller call : ℕ) (act : Act (List ℕ)) → length config.events ≤ 256 → EntryPasses config past (entry_of caller call act) → AreExact (act_fields caller call act)
exact_act config past caller call (Report event count stamp context) few passes = grind (arith, few, passes, exact_context context, sensor_is_there config event.0)
exact_act config past caller call act few passes = grind (arith, few, passes)

-- a line without a fault is told as it is
pub line_exact : (config : Parts) (past : Past) (line : Line) → length config.events ≤ 256 → fault_of config past line ≡ Ok tt → AreExact (fields_of line)
line_exact config past (enters entry) few none = exact_act config past entry.caller entry.call entry.act few (entry_passes config past entry none)
line_exact config past line few none = grind (arith, none)

-- ---- what it adds

pub flat_map-push : {A B : Type 0} (f : A → List B) (xs : List A) (x : A) → flat_map f (xs ++ x ∷ []) ≡ flat_map f xs ++ f x
flat_map-push f xs x = sym (flat_map_more f [] xs x)

-- what turns tell with a new entry, where the last of them tells one thing more
pub flat_map-with_entry : {B : Type 0} (f : Turn → List B) (more : B) (turns : List Turn) (entry : Entry (List ℕ)) → 0 < length turns
    → ((turn : Turn) → f (extended turn entry) ≡ f turn ++ more ∷ []) → flat_map f (with_entry turns entry) ≡ flat_map f turns ++ more ∷ []
flat_map-with_entry f more [] entry some adds = absurd (omega arith)
flat_map-with_entry f more (turn ∷ []) entry some adds = rw (append-nil (f (extended turn entry)), append-nil (f turn)) (adds turn)
flat_map-with_entry f more (turn ∷ next ∷ turns) entry some adds =
    rw (flat_map-with_entry f more (next ∷ turns) entry (omega arith) adds) (sym (append_assoc (f turn) (flat_map f (next ∷ turns)) (more ∷ [])))

-- a line without a fault stands after the lines before it
pub line_grows : (config : Parts) (past : Past) (line : Line) → fault_of config past line ≡ Ok tt → lines_told (next past line).told ≡ lines_told past.told ++ line ∷ []
line_grows config past (begins head) none =
    rw (nil_from_length past.told.losses (grind (arith, none))) (simp append-nil (flat_map-push turn_told past.told.turns (begun head)))
line_grows config past (enters entry) none =
    let passes = entry_passes config past entry none in
    rw passes.no_losses (simp append-nil (flat_map-with_entry turn_told (enters entry) past.told.turns entry passes.some (λ turn. ap (λ ls. begins turn.head ∷ ls) (map-append enters turn.entries (entry ∷ [])))))
line_grows config past (loses loss) none = rw map-append (sym (append_assoc (flat_map turn_told past.told.turns) (map loses past.told.losses) (loses loss ∷ [])))
