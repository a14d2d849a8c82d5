-- Lists whose elements are changed one after another.
use Rattle.buffer_classes.proofs.Names.{◌≡◌, ◌≢◌, ℕ, ◌+◌, ◌<◌, ◌≤◌, List, [], ◌∷◌, ◌++◌, set, length, refl, ◌∙◌, ap, arith, append_assoc, length_push, length-set, at_last, at_longer, at_set, at_length, there, some, get_elem?, AllOf}

module _ {A : Type 0} where
  -- below one place it is so related, and from there on it is the same
  abbrev pub Below : (ℕ → A → A → Type 0) → ℕ → ℕ → A → A → Type 0
  Below R i j old new = (j < i → R j old new) × (i ≤ j → new ≡ old)

  -- from one place on it is so related, and before it is the same
  abbrev pub From : (ℕ → A → A → Type 0) → ℕ → ℕ → A → A → Type 0
  From R i j old new = (i ≤ j → R j old new) × (j < i → new ≡ old)

module _ {A : Type 0} {R : ℕ → A → A → Type 0} {i : ℕ} {olds : List A} where
  -- nothing is changed yet
  pub none_from : length olds ≤ i → AllOf (From R i) olds olds
  none_from long = grind (arith, at_length olds)

  -- what stands at the next place stood there
  pub still : {mids : List A} (mid : A) → AllOf (Below R i) olds mids → get_elem? mids i ≡ some mid → get_elem? olds i ≡ some mid
  still {mids} mid b here =
      let old = there olds i (omega (arith, at_length mids i mid here, b.as_many)) in
      grind (arith, old, b.each i old.0 mid, here)

  -- all is
  pub all_below : {news : List A} → AllOf (Below R i) olds news → length olds ≤ i → AllOf R olds news
  all_below b past = grind (arith, b, at_length olds)

  pub all_from : {news : List A} → AllOf (From R i) olds news → i ≡ 0 → AllOf R olds news
  all_from f none = grind (arith, f, none)

-- one place more is changed
module _ {A : Type 0} {R : ℕ → A → A → Type 0} {olds mids : List A} (i : ℕ) (mid new : A) (here : get_elem? mids i ≡ some mid) where
  pub all_more : {S : ℕ → A → A → Type 0} → AllOf R olds mids → ((old : A) → R i old mid → S i old new)
      → ((j : ℕ) (old now : A) → j ≢ i → R j old now → S j old now) → AllOf S olds (set mids i new)
  all_more {S} all more same =
      let at = λ (j : ℕ) (now : A). at_set mids i j new now in
      grind (arith, length-set mids i new, at, all, here, more, same)

module _ {A : Type 0} {R : ℕ → A → A → Type 0} {olds mids : List A} (i : ℕ) (mid new : A) (here : get_elem? mids i ≡ some mid) (did : R i mid new) where
  pub below_more : AllOf (Below R i) olds mids → AllOf (Below R (i + 1)) olds (set mids i new)
  below_more b = all_more i mid new here b (λ old was. grind (arith, was, did)) (λ j old now away was. grind (arith, was, away))

  pub from_more : AllOf (From R (i + 1)) olds mids → AllOf (From R i) olds (set mids i new)
  from_more f = all_more i mid new here f (λ old was. grind (arith, was, did)) (λ j old now away was. grind (arith, was, away))

-- one relation after another
pub all_then : {A : Type 0} {R S T : ℕ → A → A → Type 0} {olds mids news : List A} → AllOf R olds mids → AllOf S mids news
    → ((i : ℕ) (old mid new : A) → R i old mid → S i mid new → T i old new) → AllOf T olds news
all_then {olds = olds} {mids = mids} first second then = record {
  as_many = second.as_many ∙ first.as_many;
  each = λ i old new was is.
      let mid = there mids i (omega (arith, at_length olds i old was, first.as_many)) in
      then i old mid.0 new (first.each i old mid.0 was mid.1) (second.each i mid.0 new mid.1 is);
}

-- it is so related by the element of another list there
abbrev pub ByEach : {A S : Type 0} → (S → A → A → Type 0) → List S → ℕ → A → A → Type 0
ByEach One all i old new = (s : _) → get_elem? all i ≡ some s → One s old new

module _ {A S : Type 0} (One : S → A → A → Type 0) {all most : List S} (left more : List S) (s : S) (is : most ≡ left ++ s ∷ [])
    (was : all ≡ most ++ more) where
  -- the last of those that are left
  pub last_left : get_elem? all (length left) ≡ some s
  last_left = rw (was, is) (at_longer (left ++ s ∷ []) more (length left) s (at_last left s (length left) refl))

  -- it is taken, and changes what stands at its place
  pub last_taken : {olds mids : List A} (i : ℕ) (mid new : A) → i ≡ length left → get_elem? mids i ≡ some mid
      → AllOf (From (ByEach One all) (length most)) olds mids → One s mid new
      → ((more : List S) × (all ≡ left ++ more)) × AllOf (From (ByEach One all) (length left)) olds (set mids i new)
  last_taken {olds} {mids} i mid new last here before did =
      let long : length most ≡ i + 1 = omega (arith, last, ap length is, length_push left s) in (
        (s ∷ more, rw (is, append_assoc) at was),
        rw (← last) (from_more i mid new here (grind (arith, last, last_left, did)) (rw (← long) before)),
      )
