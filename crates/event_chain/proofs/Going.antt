-- What lasts while moments come one after another.
use Rattle.event_chain.proofs.Names.{◌≡◌, ap, carried_room, length_permutation, ℕ, ◌+◌, ◌-◌, ◌≤◌, append_assoc, List, ◌++◌, length, arith, rules, common_steps, Output, HandsBack, all_kept, Way, HasLeft, Moved, TakesRoom, Stays, sum_by-IsPermutation, ◌∙◌, refl, vec_capacity, Vec, Global}
use Rattle.event_chain.proofs.HandsLemmas.{hands_next, hands_none}

module _ {B W : Type 0} where
  -- more moments came
  pub stays_more : {n m tick : ℕ} {old mid new : Way B W} {before between after : Output} → Stays n tick old mid before between
      → Stays m tick mid new between after → Stays (n + m) tick old new before after
  stays_more first second = search rules

  -- of all moments that can come at a tick so many came, with the parcels that are not left
  pub record Goes (held : B → List ℕ) (tick all n : ℕ) (came rest : List B) (old new : Way B W) (was back : Vec B Global) (before after : Output) : Type 0 where
    pub stays : Stays n tick old new before after
    pub sends : TakesRoom held n was.items back.items before after
    pub parcels : HandsBack came (all_kept old.windows) (rest ++ all_kept new.windows) was.items back.items
    pub capacity : vec_capacity back ≡ vec_capacity was
    pub left : HasLeft held (all - n) rest new back after

  -- none came
  pub goes_none : {held : B → List ℕ} {tick all : ℕ} {came : List B} {old : Way B W} {was : Vec B Global} {before : Output}
      → HasLeft held all came old was before → Goes held tick all 0 came came old old was was before before
  goes_none {came = came} left =
      record { stays = search rules; sends = omega arith; parcels = hands_none came _ _; capacity = refl; left = grind (arith, left) }

  module _ {held : B → List ℕ} {tick all n : ℕ} {came : List B} {was back : Vec B Global} {old mid : Way B W} {before between : Output} (own rest : List B)
      (goes : Goes held tick all n came (own ++ rest) old mid was back before between) where
    -- fewer can come
    pub goes_left : (m : ℕ) → n + m ≤ all → HasLeft held m own mid back between
    goes_left m le = grind (arith, common_steps, goes.left, le)

    -- and came
    pub goes_more : (m : ℕ) {new : Way B W} {end : Vec B Global} {after : Output} → n + m ≤ all → Moved held tick m own mid new back end between after
        → Goes held tick all (n + m) came rest old new was end before after
    goes_more m le moved =
        let hands = moved.parcels in
        let same = sum_by-IsPermutation (λ (parcel : B). 4 + length (held parcel)) _ _ hands.same in
        let whole = ap (carried_room held) hands.back in
        record {
          stays = stays_more goes.stays moved.stays;
          sends = omega (arith, goes.sends, moved.sends);
          parcels = hands_next own rest _ (rw append_assoc at goes.parcels) hands;
          capacity = moved.capacity ∙ goes.capacity;
          left = grind (arith, common_steps, same, whole, hands.back, length_permutation _ _ hands.same, goes.left, le, moved.stays, moved.sends, moved.capacity);
        }
