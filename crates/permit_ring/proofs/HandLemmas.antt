-- The slots in the keeper's hand, as one is reaped, filled or offered.
use Rattle.permit_ring.proofs.Names.{◌≡◌, ℕ, zero, suc, ◌+◌, ◌-◌, ◌%◌, ◌<◌, ◌≤◌, List, [], ◌∷◌, ◌++◌, map, length, replicate, take, drop, get_or, refl, sym, ◌∙◌, ap, ap₂, ⊎_elim, arith, append_assoc, length-map, length-append, length-replicate, replicate_more, map_push, take_at, drop_at, take_more, drop_more, length_push, turned, rest, Slot, Empty, Offered, hand_from, filled_then, ready, KeepsInHand, at_snoc, some-ne-none}

-- a hand that is turned by one more
pub turned_more : {A : Type 0} (hand : List (ℕ × A)) (i : ℕ) → i < length hand
    → turned (drop i hand ++ take i hand) ≡ drop (i + 1) hand ++ take (i + 1) hand
turned_more [] i h = absurd (omega (arith, h))
turned_more (x ∷ hand) i h =
    rw (drop_more (x ∷ hand) i x h, take_more (x ∷ hand) i x h)
    (append_assoc (drop (i + 1) (x ∷ hand)) (take i (x ∷ hand)) (get_or (x ∷ hand) i x ∷ []))

-- a slot in front is the first, and the rest is after it
pub in_front : {A : Type 0} {hand tail : List (ℕ × A)} {at place : ℕ} {x : A} → hand ≡ (at, x) ∷ tail → at ≡ place
    → hand ≡ (place, x) ∷ rest hand
in_front {x = x} e same = e ∙ (λ i. (same i, x) ∷ ap rest (sym e) i)

module _ {O : Type 0} (n : ℕ) where
  length-hand : {D : Type 0} (t : ℕ) (xs : List (Slot O D)) → length (hand_from n t xs) ≡ length xs
  length-hand t [] = refl
  length-hand t (x ∷ xs) = ap suc (length-hand (suc t) xs)

  -- two rows of slots, one after the other
  hand-append : {D : Type 0} (t : ℕ) (xs ys : List (Slot O D))
      → hand_from n t (xs ++ ys) ≡ hand_from n t xs ++ hand_from n (t + length xs) ys
  hand-append t [] ys = let same : t ≡ t + 0 = omega arith in ap (λ (k : ℕ). hand_from n k ys) same
  hand-append t (x ∷ xs) ys = grind (arith, hand-append (suc t) xs ys)

  ready_filled : (D : Type 0) (t : ℕ) (ys : List O) (vacant : ℕ) → ready (hand_from n t (filled_then {D = D} ys vacant)) ≡ length ys
  ready_filled D t [] zero = refl
  ready_filled D t [] (suc vacant) = refl
  ready_filled D t (y ∷ ys) vacant = ap suc (ready_filled D (suc t) ys vacant)

-- a hand with no filled slot
pub none_filled : {O D : Type 0} {Admits : O → Type 0} {n t vacant : ℕ} {hand : List (ℕ × Slot O D)}
    → hand ≡ hand_from n t (replicate vacant Empty) → KeepsInHand Admits n t 0 vacant hand
none_filled is = record { values = []; filled_are = refl; admitted = λ j y e. absurd (some-ne-none y (sym e)); in_hand = is }

module _ {O D : Type 0} {Admits : O → Type 0} {n t filled vacant : ℕ} {hand : List (ℕ × Slot O D)}
    (keeps : KeepsInHand Admits n t filled vacant hand) where
  -- the filled slots, and the places of those after them
  abbrev row : List (Slot O D)
  row = map Offered keeps.values

  abbrev front : List (ℕ × Slot O D)
  front = hand_from n t row

  length-front : length front ≡ filled
  length-front = length-hand n t row ∙ length-map keeps.values Offered ∙ keeps.filled_are

  two_rows : (slots : List (Slot O D)) → hand_from n t (row ++ slots) ≡ front ++ hand_from n (t + filled) slots
  two_rows slots = cc (hand-append n t row slots, length-map {B = Slot O D} keeps.values Offered, keeps.filled_are)

  -- the slots are the filled and the vacant ones
  pub hand_length : length hand ≡ filled + vacant
  hand_length = rw keeps.in_hand (simp (length-hand, length-append, length-map, length-replicate) (omega (arith, keeps.filled_are)))

  -- what is filled is ready to be offered
  pub ready_is : ready hand ≡ filled
  ready_is = rw keeps.in_hand (ready_filled n D t keeps.values vacant ∙ keeps.filled_are)

  -- one position more is vacant
  pub hand_reaped : {at : ℕ} → at ≡ (t + filled + vacant) % n → KeepsInHand Admits n t filled (vacant + 1) (hand ++ (at, Empty) ∷ [])
  hand_reaped {at} is =
      let slots : List (Slot O D) = filled_then keeps.values vacant in
      let long : t + length slots ≡ t + filled + vacant = omega (arith, hand_length, ap length keeps.in_hand, length-hand n t slots) in
      let more = append_assoc row (replicate vacant Empty) (Empty ∷ []) in
      let one : hand ++ (at, Empty) ∷ [] ≡ hand_from n t (row ++ replicate (vacant + 1) Empty) =
      cc (hand-append n t slots (Empty ∷ []), more, replicate_more {X = Slot O D} vacant Empty, keeps.in_hand) in
      record { values = keeps.values; filled_are = keeps.filled_are; admitted = keeps.admitted; in_hand = one }

  -- what was filled is offered
  pub hand_offered : KeepsInHand Admits n (t + filled) 0 vacant (drop filled hand)
  hand_offered = none_filled (rw (keeps.in_hand, two_rows (replicate vacant Empty)) (drop_at front _ filled length-front))

  -- while a vacant slot is filled, the hand is turned until that slot is in front, and back
  module _ (some_vacant : 0 < vacant) {vacancy : ℕ} (vacancy_is : vacancy ≡ (t + filled) % n) where
    -- the vacant slots after the first
    abbrev back : List (ℕ × Slot O D)
    back = hand_from n (suc (t + filled)) (replicate (vacant - 1) Empty)

    length-back : suc (length back) ≡ vacant
    length-back = simp (length-hand, length-replicate) (omega arith)

    parts : hand ≡ front ++ (vacancy, Empty) ∷ back
    parts =
        let more : vacant ≡ suc (vacant - 1) = omega (arith, some_vacant) in
        cc (keeps.in_hand, two_rows (replicate vacant Empty))

    -- the vacant slot is in front
    pub turned_to : {now : List (ℕ × Slot O D)} → now ≡ drop filled hand ++ take filled hand → now ≡ (vacancy, Empty) ∷ (back ++ front)
    turned_to is = is ∙ rw parts (ap₂ ◌++◌ (drop_at front ((vacancy, Empty) ∷ back) filled length-front)
        (take_at front ((vacancy, Empty) ∷ back) filled length-front))

    module _ {now : List (ℕ × Slot O D)} {value : O} (put : now ≡ (vacancy, Offered value) ∷ (back ++ front)) where
      pub vacant_fit : vacant ≤ length now
      vacant_fit = omega (arith, ap length put, length-append back front, length-back)

      -- and after it is turned the hand is as before, with one slot more filled
      pub one_more_filled : Admits value → {after : List (ℕ × Slot O D)} → after ≡ drop vacant now ++ take vacant now
          → KeepsInHand Admits n t (filled + 1) (vacant - 1) after
      one_more_filled admitted {after} is = record {
        values = keeps.values ++ value ∷ [];
        filled_are = length_push keeps.values value ∙ ap (λ (k : ℕ). k + 1) keeps.filled_are;
        admitted = λ j y e. ⊎_elim (keeps.admitted j y) (λ new. rw (← new) admitted) (at_snoc keeps.values value y j e);
        in_hand =
            let turns = ap₂ ◌++◌ (drop_at ((vacancy, Offered value) ∷ back) front vacant length-back)
            (take_at ((vacancy, Offered value) ∷ back) front vacant length-back) in
            let more = map_push {Y = Slot O D} Offered keeps.values value in
            let one = append_assoc row (Offered value ∷ []) (replicate (vacant - 1) Empty) in
            cc (is, put, turns, two_rows (Offered value ∷ replicate (vacant - 1) Empty), more, one);
      }
