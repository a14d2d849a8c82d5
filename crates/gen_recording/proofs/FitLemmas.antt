-- The generated configuration has no fault, and the generated trace can be recorded.
use Rattle.gen_recording.proofs.Names.{◌≡◌, ℕ, zero, suc, ◌+◌, ◌≤◌, ◌<◌, [], ◌∷◌, ◌++◌, length, map, Ok, IsTrue, refl, arith, length-append, range_with_len, length-map-range_with_len, each_event, events_value, internal_value, Options, is_in_range, ranges, all_events, config_of, internal_event, sensor_event, ◌*◌, ◌%◌, ◌==◌, ◌&&◌, if◌then◌else◌, changes, Bool, true, false, List, inl, inr, rules, common_steps, AllByRecursion, flat_map, get_or_past, get_or-map-range_with_len, KeepUpFrom, last_tick, lines_at, round_ticks, IsInRange, HasClassFor, draw, changes_by, generated_round, lines_by, rounds_of, tick_after, calls_from, CanAsk, context_of, report_at, size_of, get_or, all_append, all_at, keep_append, last_of_all, nat_tests, All-map, recursion_from_All}
use Rattle.std.proofs.lemmas.Bool.{cases_lt, cond_both}
use Rattle.ids_config.specs.Values.{event_value, parts_value}
use Rattle.gen_recording.specs.Recording.{CanAskAll, CanRecord, CanTake}

-- ---- the configuration

-- an event that sensors report has no fault
sensor_faultless : (e : ℕ) → e < 200 → event_value 1 (sensor_event e) ≡ Ok tt
unfolding event_value
sensor_faultless e few = grind (arith, nat_tests)

sensors_faultless : (i a n : ℕ) → a + n ≤ 200
    → each_event 1 i (map sensor_event (range_with_len a n) ++ internal_event 1 ∷ internal_event 2 ∷ internal_event 3 ∷ []) ≡ Ok tt
unfolding event_value
sensors_faultless i a zero few = refl
sensors_faultless i a (suc n) few = rw (sensor_faultless a (omega arith)) (sensors_faultless (suc i) (a + 1) n (omega arith))

-- so many events, with the internal ones
pub length-all_events : (events : ℕ) → length (all_events events) ≡ events + 3
length-all_events events = rw (length-append, length-map-range_with_len sensor_event 0 events) refl

events_faultless : (events : ℕ) → events ≤ 200 → events_value 1 (all_events events) ≡ Ok tt
events_faultless events few =
    let each = sensors_faultless 0 0 events (omega arith) in
    rw (length-all_events events) (grind (arith, nat_tests, each))

internal_faultless : (o : Options) → internal_value (config_of o) ≡ Ok tt
internal_faultless o = rw (length-all_events o.events) (grind (arith, nat_tests))

-- the configuration has no fault
pub config_faultless : (o : Options) → IsTrue (is_in_range o) → parts_value (config_of o) ≡ Ok tt
unfolding parts_value
config_faultless o holds =
    let fits = ranges o holds in
    rw (events_faultless o.events fits.events, internal_faultless o) (grind (arith, nat_tests))

-- ---- the trace

-- what is made of any number is such
all_made : {A : Type 0} (P : A → Type 0) (f : ℕ → A) → ((n : ℕ) → P (f n)) → (ns : List ℕ) → AllByRecursion P (map f ns)
all_made P f each ns = recursion_from_All P (map f ns) (All-map P f ns (λ k d within. each (get_or ns k d)))

-- two classes are large enough for short context data
class_fits : (o : Options) (bytes : List ℕ) → length bytes ≤ 40 → HasClassFor (config_of o) bytes
class_fits o [] few = tt
class_fits o (byte ∷ bytes) few = grind (arith, nat_tests)

module _ (o : Options) (fits : IsInRange o) where
  -- a report may be asked
  report_fits : (caller tick n : ℕ) → caller < o.callers → CanAsk (config_of o) caller (report_at o tick n)
  report_fits caller tick n there =
      let some = fits.an_event in
      let event = draw o.start (4 * n) o.events in
      let choice = draw o.start (4 * n + 3) 4 in
      let small : size_of choice ≤ 40 = all_at (λ size. size ≤ 40) (0 ∷ 4 ∷ 16 ∷ 40 ∷ []) choice 0 (search rules) (omega arith) in
      let short : length (context_of event (size_of choice)) ≤ 40 = omega (arith, length-map-range_with_len (λ i. (event + i) % 256) 0 (size_of choice)) in
      (there, omega (arith, length-all_events o.events), omega (arith, short), class_fits o (context_of event (size_of choice)) short)

  change_fits : (b : Bool) (caller state : ℕ) → caller < o.callers
      → CanAskAll (config_of o) caller (if b then changes state ∷ [] else [])
  change_fits true caller state there = (there, tt)
  change_fits false caller state there = tt

  -- all lines of a caller may be asked
  lines_fit : (r caller : ℕ) → caller < o.callers → CanAskAll (config_of o) caller (lines_by o r caller)
  lines_fit r caller there =
      all_append (CanAsk (config_of o) caller) (changes_by r caller) _
      (change_fits (caller == 0 && r % 100 == 99) caller _ there)
      (all_made (CanAsk (config_of o) caller) (report_at o (tick_after r)) (λ n. report_fits caller (tick_after r) n there) (range_with_len (4 * (r * o.callers + caller)) 4))

  -- ---- rounds

  few_lines : (r caller : ℕ) → length (lines_by o r caller) ≤ 5
  few_lines r caller = grind (arith, common_steps)

  few_calls : (r first a n : ℕ) → length (calls_from first (map (lines_by o r) (range_with_len a n))) ≤ 5 * n
  few_calls r first a zero = omega arith
  few_calls r first a (suc n) = grind (arith, common_steps, few_lines r a, few_calls r (suc first) (a + 1) n)

  lines_of_fit : (r caller : ℕ) → CanAskAll (config_of o) caller (lines_at caller (generated_round o r))
  lines_of_fit r caller = elim (cases_lt caller o.callers) [
    | inl there ↦ rw (get_or-map-range_with_len (lines_by o r) 0 o.callers caller caller [] there (omega arith)) (lines_fit r caller there)
    | inr beyond ↦
        rw (get_or_past (map (lines_by o r) (range_with_len 0 o.callers)) caller [] (omega (arith, length-map-range_with_len (lines_by o r) 0 o.callers))) tt
  ]

  round_fits : (r : ℕ) → CanTake (config_of o) (generated_round o r)
  round_fits r = grind (arith, length-map-range_with_len (lines_by o r) 0 o.callers, few_calls r 0 0 o.callers, fits.callers, lines_of_fit r)

  ticks_from : (a n : ℕ) → KeepUpFrom (10 * a) (flat_map round_ticks (map (generated_round o) (range_with_len a n)))
  ticks_from a zero = tt
  ticks_from a (suc n) =
      let later = ticks_from (a + 1) n in
      cond_both (a % 2 == 1) _ [] (λ ticks. KeepUpFrom (10 * a) ((ticks ++ 10 * (a + 1) ∷ []) ++ flat_map round_ticks (map (generated_round o) (range_with_len (a + 1) n))))
      (λ _. (omega arith, (omega arith, later))) (λ _. (omega arith, later))

  -- the generated trace can be recorded
  pub rounds_fit : CanRecord (config_of o) (record { callers = o.callers; rounds = rounds_of o })
  rounds_fit = record {
    callers = refl;
    rounds = all_made (CanTake (config_of o)) (generated_round o) round_fits (range_with_len 0 o.rounds);
    ticks = keep_append 0 (flat_map round_ticks (rounds_of o)) (last_tick (rounds_of o) ∷ []) (ticks_from 0 o.rounds) (omega (arith, last_of_all (rounds_of o)), tt);
  }
