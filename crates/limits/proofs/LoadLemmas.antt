-- What candidates weigh in a window.
use Rattle.std.proofs.Common.{◌≡◌, ◌≤◌, ◌<◌, ◌+◌, ◌/◌, ℕ, zero, suc, List, [], ◌∷◌, Option, Some, refl, arith, eq-eqb, ne_eqb, leb-true, None, IfSome, inl, inr}
use Rattle.std.proofs.Math.Nat.{div-zero}
use Rattle.std.proofs.lemmas.Nat.{div-add-mod', le-div}
use Rattle.std.proofs.lemmas.Bool.{and_parts, cases_Bool, cases_eq}
use Rattle.std.proofs.lemmas.List.Sums.{sum_by-cons}
use Rattle.std.specs.List.{AllByRecursion}
use Rattle.ids_config.specs.declared.parts.Window.{Window as Limit}
use Rattle.chain_spec.specs.{Candidate, window_at, those_in, load, passes_rate, passes_traffic, is_let_out, sent_of}

-- a later tick lies in no earlier window
pub later_window : (interval early late : ℕ) → early ≤ late → window_at interval early ≤ window_at interval late
later_window zero early late le = omega (arith, div-zero early, div-zero late)
later_window (suc n) early late le =
    le-div (early / suc n) late (suc n) (omega arith) (omega (arith, div-add-mod' early (suc n)))

module _ (interval : ℕ) (weight : Candidate → ℕ) where
  -- a candidate weighs in its own window
  pub load_own : (one : Candidate) (xs : List Candidate) (window : ℕ) → window_at interval one.tick ≡ window
      → load interval weight (one ∷ xs) window ≡ weight one + load interval weight xs window
  load_own one xs window is = rw (eq-eqb _ _ is) (sum_by-cons weight one (those_in interval xs window))

  -- where all lie in windows up to one, nothing weighs in a later window, and all lie in windows up to that
  pub load_behind : (last window : ℕ) (xs : List Candidate) → AllByRecursion (λ one. window_at interval one.tick ≤ last) xs
      → last < window → (load interval weight xs window ≡ 0) × AllByRecursion (λ one. window_at interval one.tick ≤ window) xs
  load_behind last window [] so_far ahead = (refl, tt)
  load_behind last window (one ∷ xs) so_far ahead =
      let rest = load_behind last window xs so_far.1 ahead in
      (rw (ne_eqb (window_at interval one.tick) window (λ is. omega (arith, so_far.0, is, ahead))) rest.0, (omega (arith, so_far.0, ahead), rest.1))

-- what is sent keeps the traffic limit in each window
pub sent_within : (rate traffic : Option Limit) (before : List Candidate)
    → IfSome traffic (λ limit. (window : ℕ) → load limit.interval (λ one. one.bytes) (sent_of rate traffic before) window ≤ limit.number)
sent_within rate None before = tt
sent_within rate (Some limit) [] = λ window. omega arith
sent_within rate (Some limit) (one ∷ before) = λ window.
    let rest = sent_within rate (Some limit) before window in
    elim (cases_Bool (is_let_out rate (Some limit) before one)) [
      | inl is ↦
          let fits = leb-true _ _ (and_parts (passes_rate rate before one) (passes_traffic (Some limit) _ one) is).1 in
          rw is (elim (cases_eq (window_at limit.interval one.tick) window) [
            | inl same ↦ omega (arith, rw same at fits, load_own limit.interval (λ one. one.bytes) one (sent_of rate (Some limit) before) window same)
            | inr other ↦ rw (ne_eqb _ _ other) rest
          ])
      | inr is ↦ rw is rest
    ]
