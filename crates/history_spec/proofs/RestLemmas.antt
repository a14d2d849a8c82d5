-- What two rests tell of the calls, the turns and the losses between them.
use Rattle.history_spec.proofs.Names.{◌≡◌, ℕ, zero, suc, ◌+◌, ◌-◌, ◌*◌, ◌<◌, ◌≤◌, ◌==◌, nat_lt, Bool, true, List, [], ◌∷◌, ◌++◌, length, map, filter, take, drop, refl, ap, ◌∙◌, inl, inr, arith, length-append, cases_lt, length-map, filter-append, map-append, eq-eqb, Turn, entries_of, Entry, Loss, AreMerged, entries_by, calls_of, StandsIn, times, some-injective, Rest, lost_by, IsSettledAt, SeesAll, IsLater, calls_between, lost_between, turns_between, AllByRecursion, common_steps, lost_calls_of, entries_before, flat_map-append}
use Rattle.history_spec.proofs.PlaceLemmas.{stands_kept}
use Rattle.history_spec.proofs.TotalLemmas.{times-append, below, below_more, none_below, all_below, as_many}
use Rattle.std.proofs.Math.Nat.{mul-suc}
use Rattle.std.proofs.Math.Seq.{take-add}

-- ---- lists

module _ {A : Type 0} where
  -- an owner has as many calls as things are its own
  of_owner : (owner call : A → ℕ) (c : ℕ) (xs : List A) → length (map call (filter (λ x. c == owner x) xs)) ≡ times c (map owner xs)
  of_owner owner call c [] = refl
  of_owner owner call c (x ∷ xs) = let rest = of_owner owner call c xs in grind (arith, rest)

  -- where a first test passes what the second does, it keeps no fewer
  no_fewer : (p q : A → Bool) (xs : List A) → ((x : A) → StandsIn xs x → q x ≡ true → p x ≡ true) → length (filter q xs) ≤ length (filter p xs)
  no_fewer p q [] passes = omega arith
  no_fewer p q (x ∷ xs) passes = grind (arith, no_fewer p q xs (λ y at. passes y (suc at.0, at.1)), passes x (0, refl))

-- a number that stands in a list is counted
counted_where_stands : {A : Type 0} (f : A → ℕ) (xs : List A) (x : A) → StandsIn xs x → 0 < times (f x) (map f xs)
counted_where_stands f [] x (place, at) = cc
counted_where_stands f (y ∷ xs) x (zero, at) = grind (arith, ap f (some-injective y x at))
counted_where_stands f (y ∷ xs) x (suc place, at) = omega (arith, counted_where_stands f xs x (place, at))

-- ---- turns

-- the entries up to a later turn, in two parts
pub in_parts : (k m : ℕ) (turns : List Turn) → k ≤ m
    → entries_of (take m turns) ≡ entries_of (take k turns) ++ entries_of (take (m - k) (drop k turns))
in_parts k m turns le =
    ap (λ x. entries_of (take x turns)) (omega arith) ∙ ap entries_of (take-add k (m - k) turns) ∙ flat_map-append _ (take k turns) _

-- d turns that have at most n entries each
few_entries : (n k d : ℕ) (turns : List Turn) → AllByRecursion (λ turn. length turn.entries ≤ n) turns
    → length (entries_of (take d (drop k turns))) ≤ n * d
few_entries n (suc k) d (turn ∷ turns) few = few_entries n k d turns few.1
few_entries n zero (suc d) (turn ∷ turns) few =
    omega (arith, length-append turn.entries (entries_of (take d turns)), mul-suc n d, few_entries n zero d turns few.1, few.0)
few_entries n k d turns few = grind (arith, common_steps)

-- ---- calls

-- the callers of entries, and of losses
abbrev owners : List Turn → List Loss → List ℕ
owners turns losses = map (λ e. e.caller) (entries_of turns) ++ map (λ (loss : Loss). loss.caller) losses

module _ {n : ℕ} {calls : ℕ → ℕ} {turns : List Turn} {losses : List Loss} (merged : AreMerged n calls turns losses) where
  -- each call of a caller is one entry or one loss
  own_calls : (c : ℕ) → times c (owners turns losses) ≡ calls c
  own_calls c =
      let mine = calls_of c (entries_of turns) in
      let lost = lost_calls_of c losses in
      let all = as_many (calls c) (mine ++ lost) (λ x. omega (arith, times-append x mine lost, merged.each_once c x)) in
      omega (arith, all, times-append, length-append mine lost, of_owner (λ (e : Entry (List ℕ)). e.caller) (λ e. e.call) c (entries_of turns), of_owner (λ (loss : Loss). loss.caller) (λ loss. loss.call) c losses)

  -- where no others call, these are all
  whole : (callers : ℕ) → ((c : ℕ) → callers ≤ c → calls c ≡ 0) → below callers (owners turns losses) ≡ length (entries_of turns) + length losses
  whole callers none =
      simp (length-append, length-map) at (all_below callers (owners turns losses) (λ c more. omega (arith, own_calls c, none c more)))

module _ (n callers : ℕ) (turns : List Turn) (losses : List Loss) (first second : Rest)
    (settled : IsSettledAt n turns losses first) (later : IsSettledAt n turns losses second) (is_later : IsLater callers first second) where
  calls_of_some : (k : ℕ) → below k (owners (take first.turns turns) (lost_by first losses)) + calls_between k first second
      ≡ below k (owners (take second.turns turns) (lost_by second losses))
  calls_of_some zero = omega (arith, none_below)
  calls_of_some (suc c) = omega (arith, below_more, calls_of_some c, own_calls settled c, own_calls later c, is_later.calls_rise c)

  all_calls : entries_before first.turns turns + length (lost_by first losses) + calls_between callers first second
      ≡ entries_before second.turns turns + length (lost_by second losses)
  all_calls = omega (
    arith,
    calls_of_some callers,
    whole settled callers (λ c more. omega (arith, is_later.calls_rise c, is_later.no_others c more)),
    whole later callers is_later.no_others,
  )

  -- where a call between the rests was lost, at least n of them were accepted
  pub most : SeesAll turns losses first → lost_between first second losses ≤ calls_between callers first second - n
  most sees = elim (cases_lt (entries_before second.turns turns) (entries_before first.turns turns + n)) [
    | inl few ↦
        let by = λ (rest : Rest) (loss : Loss). nat_lt loss.call (rest.calls loss.caller) in
        let no_more = no_fewer (by first) (by second) losses (λ loss stands is.
        grind (arith, few, sees loss stands, (later.legal loss (stands_kept (by second) losses loss stands is)).claimed)) in
        omega (arith, no_more)
    | inr many ↦ omega (arith, all_calls)
  ]

  pub least : AllByRecursion (λ turn. length turn.entries ≤ n) turns
      → calls_between callers first second - n * (second.turns - first.turns) ≤ lost_between first second losses
  least few =
      let more = few_entries n first.turns (second.turns - first.turns) turns few in
      omega (arith, all_calls, more, ap length (in_parts first.turns second.turns turns is_later.turns_rise), length-append (entries_of (take first.turns turns)))

  -- what was lost by the first rest was lost by the second
  lost_still : (c x : ℕ) (some_losses : List Loss) → times x (lost_calls_of c (lost_by first some_losses)) ≤ times x (lost_calls_of c (lost_by second some_losses))
  lost_still c x [] = omega arith
  lost_still c x (loss ∷ losses) = grind (arith, lost_still c x losses, is_later.calls_rise loss.caller)

  pub own_round : (e : Entry (List ℕ)) → StandsIn (entries_of (turns_between first second turns)) e
      → (first.calls e.caller ≤ e.call) × (e.call < second.calls e.caller)
  own_round e stands =
      let c = e.caller in
      let between = entries_of (turns_between first second turns) in
      let kept = stands_kept (λ (x : Entry (List ℕ)). c == x.caller) between e stands (eq-eqb c c refl) in
      let there = counted_where_stands (λ (x : Entry (List ℕ)). x.call) (entries_by c between) e kept in
      let once = rw (in_parts first.turns second.turns turns is_later.turns_rise, filter-append, map-append, times-append) at (later.each_once c e.call) in
      (grind (arith, there, once, settled.each_once c e.call, lost_still c e.call losses), grind (arith, there, once))
