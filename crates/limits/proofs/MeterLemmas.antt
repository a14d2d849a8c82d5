-- What meters have left after candidates.
use Rattle.std.proofs.Common.{◌≡◌, ◌≤◌, ◌<◌, ◌-◌, ◌++◌, ◌⊎◌, ℕ, nat_le, List, ◌∷◌, Option, Some, None, inl, inr, option_to_list, refl, sym, arith, leb-false, IfSome, eq-eqb, ne_eqb, ◌+◌}
use Rattle.std.proofs.lemmas.Bool.{cases_Bool, cases_eq}
use Rattle.ids_config.specs.Parts.{Parts}
use Rattle.ids_config.specs.declared.parts.Window.{Window as Limit}
use Rattle.chain_spec.specs.{Candidate, window_at, load, has_room, passes_rate, passes_traffic, sent_of, where_true, EndBy}
use Rattle.limits.specs.declared.meter.Meter.{Meter}
use Rattle.limits.specs.Limiting.{Measures, MeasuresAny, Stands, answer_to}
use Rattle.limits.specs.Meters.{Meters, in_window, is_allowed, after_any, answer_of, after_message, renewed}
use Rattle.limits.proofs.LoadLemmas.{later_window, load_own, load_behind, sent_within}
use Rattle.std.proofs.lemmas.Bool.Decides.{nat_tests}

-- where one may be taken from what is left, it fits beside the load
takes_or_fits : (weight used number left : ℕ) → left ≡ number - used → (used ≤ number) ⊎ (1 ≤ weight)
    → nat_le weight left ≡ nat_le (used + weight) number
takes_or_fits weight used number left is exact = grind (arith, nat_tests)

module _ (weight : Candidate → ℕ) (before counted : List Candidate) (one : Candidate)
    (by : EndBy (λ c. c.tick) one.tick before) where
  -- a meter that is not asked
  unasked : (meter : Meter) → Measures weight before counted meter → Measures weight (one ∷ before) counted meter
  unasked meter stands = record {
    left = stands.left;
    so_far = stands.so_far;
    not_ahead = λ tick later.
        omega (arith, stands.not_ahead one.tick by, later_window meter.limit.interval one.tick tick later.0);
  }

  -- a meter that is moved to the candidate's window
  moved : (meter : Meter) → Measures weight before counted meter → let now = in_window one.tick meter in
      (now.window ≡ window_at now.limit.interval one.tick) × MeasuresAny (Some meter.limit) weight (one ∷ before) counted (Some now)
  moved meter stands =
      let window = window_at meter.limit.interval one.tick in
      elim (cases_eq meter.window window) [
        | inl is ↦ rw (eq-eqb _ _ is) (is, (refl, unasked meter stands))
        | inr isnt ↦
            let ahead : meter.window < window = omega (arith, stands.not_ahead one.tick by, isnt) in
            let behind = load_behind meter.limit.interval weight meter.window window counted stands.so_far ahead in
            let fresh : Measures weight (one ∷ before) counted (renewed window meter) = record {
              left = omega (arith, behind.0);
              so_far = behind.1;
              not_ahead = λ tick later. later_window meter.limit.interval one.tick tick later.0;
            } in
            rw (ne_eqb _ _ isnt) (refl, (refl, fresh))
      ]

  -- there the candidate counts
  with_one : (now : Meter) (left : ℕ) → now.window ≡ window_at now.limit.interval one.tick
      → Measures weight (one ∷ before) counted now → left ≡ now.left - weight one
      → Measures weight (one ∷ before) (one ∷ counted) (record now { left = left })
  with_one now left there stands is = record {
    left = omega (arith, is, stands.left, load_own now.limit.interval weight one counted now.window (sym there));
    so_far = (omega (arith, there), stands.so_far);
    not_ahead = stands.not_ahead;
  }

  -- a limit with its meter, which answers whether there is room, where not too much counts or the candidate weighs something;
  -- and what the meter measures then
  record Asks (limit : Option Limit) (meter : Option Meter) : Type 0 where
    answers : IfSome limit (λ l. (window : ℕ) → load l.interval weight counted window ≤ l.number) ⊎ (1 ≤ weight one)
        → is_allowed one.tick (weight one) meter ≡ has_room limit weight counted one
    counts : MeasuresAny limit weight (one ∷ before) (option_to_list (where_true (is_allowed one.tick (weight one) meter) one) ++ counted)
        (after_any one.tick (weight one) meter)
    counts_once : weight one ≡ 1 → MeasuresAny limit weight (one ∷ before) (one ∷ counted) (after_any one.tick (weight one) meter)
    passes_by : MeasuresAny limit weight (one ∷ before) counted meter

  asks : (limit : Option Limit) (meter : Option Meter) → MeasuresAny limit weight before counted meter → Asks limit meter
  asks None None stands = record { answers = λ fits. refl; counts = tt; counts_once = λ is. tt; passes_by = tt }
  asks (Some limit) (Some meter) stands =
      let now = in_window one.tick meter in
      let there = moved meter stands.1 in
      let is_left = cases_Bool (nat_le (weight one) now.left) in
      let counts = with_one now (now.left - weight one) there.0 there.1.1 refl in
      rw (← stands.0) (record {
        answers = λ fits. takes_or_fits (weight one) _ meter.limit.number now.left (rw (there.0, there.1.0) at there.1.1.left)
            (elim fits [ inl within ↦ inl (within _) | inr some ↦ inr some ]);
        counts = elim is_left [ inl left ↦ rw left (there.1.0, counts) | inr none ↦ rw none there.1 ];
        counts_once = λ is. elim is_left [
          | inl left ↦ rw left (there.1.0, counts)
          | inr none ↦ rw none (there.1.0, with_one now now.left there.0 there.1.1 (omega (arith, is, leb-false _ _ none)))
        ];
        passes_by = (refl, unasked meter stands.1);
      })
  asks _ _ stands = absurd stands

module _ (before : List Candidate) (one : Candidate) (by : EndBy (λ c. c.tick) one.tick before) (config : Parts) (meters : Meters)
    (stands : Stands config before meters) where
  rate : Asks (λ c. 1) before before one by config.rate meters.rate
  rate = asks (λ c. 1) before before one by config.rate meters.rate stands.rate

  traffic : Asks (λ c. c.bytes) before (sent_of config.rate config.traffic before) one by config.traffic meters.traffic
  traffic = asks (λ c. c.bytes) before (sent_of config.rate config.traffic before) one by config.traffic meters.traffic stands.traffic

  rate_answers : is_allowed one.tick 1 meters.rate ≡ passes_rate config.rate before one
  rate_answers = rate.answers (inr (omega arith))

  traffic_answers : is_allowed one.tick one.bytes meters.traffic
      ≡ passes_traffic config.traffic (sent_of config.rate config.traffic before) one
  traffic_answers = traffic.answers (inl (sent_within config.rate config.traffic before))

  -- what the meters answer is what the limits say
  pub answers : answer_of one.tick one.bytes meters ≡ answer_to config before one
  answers = rw (rate_answers, traffic_answers) refl

  -- and the meters stand for the candidates with this one
  pub stands_with : Stands config (one ∷ before) (after_message one.tick one.bytes meters)
  stands_with = record {
    rate = rate.counts_once refl;
    traffic = rw rate_answers (elim (cases_Bool (passes_rate config.rate before one))
        [ inl is ↦ rw (is, ← traffic_answers) traffic.counts | inr is ↦ rw is traffic.passes_by ]);
  }
