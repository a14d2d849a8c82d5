-- Which contexts go without a buffer between two rests.
use Rattle.history_spec.proofs.Names.{◌≡◌, ℕ, zero, suc, ◌+◌, ◌<◌, ◌≤◌, ◌⊎◌, ◌==◌, ◌&&◌, nat_lt, nat_le, if◌then◌else◌, List, [], ◌∷◌, length, refl, inl, inr, arith, length-append, cases_lt, Turn, Entry, Act, Report, Kept, Fate, Parts, claim_of, claims_of, StandsIn, flat_map-append, context_of, fitting_class, kept_class, needing, missing_in, ClassRest, claimed_at, free_at, ClassesRested, entries_between, AskInOrder, from_class, greatest, too_many}
use Rattle.history_spec.proofs.RestLemmas.{in_parts}

-- ---- sums over classes

from_le : (i n : ℕ) (f g : ℕ → ℕ) → ((j : ℕ) → i ≤ j → j < n → f j ≤ g j) → from_class i n f ≤ from_class i n g
from_le i zero f g le = omega arith
from_le i (suc n) f g le = grind (arith, from_le i n f g (λ j low less. le j low (omega arith)), le n)

no_sum : (i n : ℕ) → from_class i n (λ j. 0) ≡ 0
no_sum i zero = refl
no_sum i (suc n) = grind (arith, no_sum i n)

pub greatest_le : (n m : ℕ) (f : ℕ → ℕ) → ((j : ℕ) → j < n → f j ≤ m) → greatest n f ≤ m
greatest_le zero m f le = omega arith
greatest_le (suc n) m f le = omega (arith, greatest_le n m f (λ j less. le j (omega arith)), le n (omega arith))

le_greatest : (n j : ℕ) (f : ℕ → ℕ) → j < n → f j ≤ greatest n f
le_greatest zero j f less = absurd (omega arith)
le_greatest (suc n) j f less = grind (arith, le_greatest n j f)

module _ (config : Parts) where
  -- an entry claims a buffer of the class that keeps its context
  one_claim : (j : ℕ) (act : Act (List ℕ)) → j < length config.classes
      → length (claim_of j act) ≡ (if kept_class config (context_of act) == j then 1 else 0)
  one_claim j (Report event count stamp (Kept class claim bytes)) less = grind arith
  one_claim j act less = grind arith

  more_claims : (i n : ℕ) (e : Entry (List ℕ)) (es : List (Entry (List ℕ))) → n ≤ length config.classes
      → let kept = kept_class config (context_of e.act) in from_class i n (λ j. length (claims_of j (e ∷ es)))
      ≡ (if nat_le i kept && nat_lt kept n then 1 else 0) + from_class i n (λ j. length (claims_of j es))
  more_claims i zero e es le = grind arith
  more_claims i (suc n) e es le =
      grind (arith, more_claims i n e es (omega arith), one_claim n e.act, length-append (claim_of n e.act) (claims_of n es))

  -- those that need class i or a larger one are kept there, or missing; and where no context was passed on to it, no others are
  needed : (i : ℕ) (es : List (Entry (List ℕ))) → i ≤ length config.classes
      → ((e : Entry (List ℕ)) → StandsIn es e → fitting_class config (context_of e.act) ≤ kept_class config (context_of e.act))
      → let all = missing_in config es + from_class i (length config.classes) (λ j. length (claims_of j es)) in (needing config i es ≤ all)
      × (((e : Entry (List ℕ)) → StandsIn es e → (i ≤ fitting_class config (context_of e.act)) ⊎ (kept_class config (context_of e.act) < i))
      → all ≤ needing config i es)
  needed i [] le fits = (omega arith, λ none. omega (arith, no_sum i (length config.classes)))
  needed i (e ∷ es) le fits =
      let rest = needed i es le (λ x at. fits x (suc at.0, at.1)) in
      let more = more_claims i (length config.classes) e es (omega arith) in
      let fit = fits e (0, refl) in
      (grind (arith, rest.0, more, fit), λ none. grind (arith, rest.1 (λ x at. none x (suc at.0, at.1)), more, fit, none e (0, refl)))

  none_need : (i : ℕ) (es : List (Entry (List ℕ))) → length config.classes ≤ i → needing config i es ≡ 0
  none_need i [] beyond = refl
  none_need i (e ∷ es) beyond = grind (arith, none_need i es beyond)

  module _ (turns : List Turn) (log : ℕ → ℕ → List Fate) (first second : ClassRest)
      (before : ClassesRested turns log first) (after : ClassesRested turns log second) (asks : AskInOrder config turns log first second) where
    abbrev es : List (Entry (List ℕ))
    es = entries_between turns first second

    abbrev K : ℕ
    K = length config.classes

    -- what was claimed by the second rest
    claimed_more : (j : ℕ) → claimed_at turns second j ≡ claimed_at turns first j + length (claims_of j es)
    claimed_more j =
        rw (in_parts first.rest.turns second.rest.turns turns asks.turns_rise, flat_map-append) (length-append _ (claims_of j es))

    all_out : (e : Entry (List ℕ)) (j : ℕ) → StandsIn es e → fitting_class config (context_of e.act) ≤ j
        → j < kept_class config (context_of e.act) → first.offered j ≤ claimed_at turns second j
    all_out e j stands fits less =
        let lost = asks.in_vain e j stands fits less in
        omega (arith, before.sees e.caller j lost.0 lost.1 lost.2 lost.4, after.settled e.caller j lost.0 lost.1 lost.3 lost.4)

    -- where no context was passed on to class i, and all is out from it on
    bound : (i : ℕ) → i ≤ K → ((j : ℕ) → i ≤ j → j < K → first.offered j ≤ claimed_at turns second j) → ((e : Entry (List ℕ)) → StandsIn es e
        → (i ≤ fitting_class config (context_of e.act)) ⊎ (kept_class config (context_of e.act) < i)) → missing_in config es ≤ greatest K (too_many config turns first second)
    bound i le all none =
        let few = (needed i es le asks.fits).1 none in
        let free = from_le i K (free_at turns first) (λ j. length (claims_of j es)) (λ j low less. omega (arith, all j low less, claimed_more j)) in
        grind (arith, few, free, le_greatest K i (too_many config turns first second), none_need i es)

    most_from : (i : ℕ) → i ≤ K → ((j : ℕ) → i ≤ j → j < K → first.offered j ≤ claimed_at turns second j)
        → missing_in config es ≤ greatest K (too_many config turns first second)
    most_from zero le all = bound 0 le all (λ e at. inl (omega arith))
    most_from (suc i) le all = elim (cases_lt (claimed_at turns second i) (first.offered i)) [
      | inl left ↦ bound (suc i) le all (λ e at. grind (arith, left, all_out e i at))
      | inr out ↦ most_from i (omega arith) (λ j low less. grind (arith, out, all j))
    ]

    pub most : missing_in config es ≤ greatest K (too_many config turns first second)
    most = most_from K (omega arith) (λ j low less. omega arith)

    pub just : ((j : ℕ) → j < K → claimed_at turns second j ≤ first.offered j) → missing_in config es ≡ greatest K (too_many config turns first second)
    just within =
        let least = greatest_le K (missing_in config es) (too_many config turns first second) (λ i less.
        omega (
          arith,
          (needed i es (omega arith) asks.fits).0,
          from_le i K (λ j. length (claims_of j es)) (free_at turns first)
              (λ j low less. omega (arith, within j less, claimed_more j)),
        )) in
        omega (arith, least, most)
