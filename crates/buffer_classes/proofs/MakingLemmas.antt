-- Classes that are made one after another.
use Rattle.buffer_classes.proofs.Names.{◌≡◌, ℕ, suc, ◌<◌, List, [], ◌∷◌, ◌++◌, length, take, sym, ◌∙◌, ap, arith, length-map, length_push, map_push, at_end, at_length, there, ClassSpec, IsNewSeat, seat_memo, new_memo, IsBufferOf, AllOf, AreClasses, RiseFrom, class_sizes, givers_of, AreNewClasses, GetsOne, GetsSeat, IsNewClaimant, IsNewClass, spec_sizes, Class, ClassSeat, IsHisSeat, Classes, Giver, Givers, ClaimSeat, IsGiverOf, some, new_ordered, get_elem?, vec_capacity, IsNewGiver}
use Rattle.buffer_classes.proofs.FittingLemmas.{many_sizes}

-- sizes that rise do so up to any place
pub rise_taken : (above n : ℕ) (specs : List ClassSpec) → RiseFrom above (spec_sizes specs) → RiseFrom above (spec_sizes (take n specs))
rise_taken above (suc n) (spec ∷ specs) rise = (rise.0, rise_taken spec.size n specs rise.1)
rise_taken above _ _ rise = tt

-- what holds of the elements of two lists place by place holds with one more each
both_more : {A B : Type 0} (R : ℕ → A → B → Type 0) (xs : List A) (ys : List B) (x : A) (y : B) → length xs ≡ length ys
    → ((i : ℕ) (a : A) (b : B) → get_elem? xs i ≡ some a → get_elem? ys i ≡ some b → R i a b) → R (length xs) x y
    → (i : ℕ) (a : A) (b : B) → get_elem? (xs ++ x ∷ []) i ≡ some a → get_elem? (ys ++ y ∷ []) i ≡ some b → R i a b
both_more R xs ys x y many each last i a b at bt =
    grind (arith, at_end xs x a i at, at_end ys y b i bt, at_length xs i a, at_length ys i b, many, each i a b, last)

-- a claimant that got a seat, and which
got_of : (seats : List ClassSeat) {olds news : List ClaimSeat} → AllOf (GetsSeat seats) olds news → length seats ≡ length olds
    → (i : ℕ) (now : ClaimSeat) → get_elem? news i ≡ some now
    → (old : ClaimSeat) × (s : ClassSeat) × (get_elem? olds i ≡ some old) × (get_elem? seats i ≡ some s) × GetsOne s old now
got_of seats {olds} {news} gets many i now at =
    let old = there olds i (omega (arith, at_length news i now at, gets.as_many)) in
    let s = there seats i (omega (arith, at_length news i now at, many, gets.as_many)) in
    (old.0, s.0, old.1, s.1, gets.each i old.0 now old.1 at s.0 s.1)

-- there are as many classes as were made
pub as_many : {done : List ClassSpec} {limit : ℕ} {classes : Classes} {givers : Givers} {seats : List ClaimSeat}
    → AreNewClasses done limit classes givers seats → length classes.classes.items ≡ length done
as_many {done} {classes = classes} was = sym (many_sizes classes) ∙ ap length was.sizes_are ∙ length-map done (λ (spec : ClassSpec). spec.size)

module _ {done : List ClassSpec} {limit : ℕ} {classes : Classes} {givers : Givers} {olds : List ClaimSeat}
    (was : AreNewClasses done limit classes givers olds)
    {spec : ClassSpec} {class : Class} {giver : Giver} {seats : List ClassSeat} {place : ℕ} (new : IsNewClass place spec limit class giver seats)
    (last : place ≡ length done) (few : length done < 4) (rise : RiseFrom 0 (spec_sizes (done ++ spec ∷ [])))
    (classes' : Classes) (givers' : Givers) (news : List ClaimSeat)
    (classes_are : classes'.classes.items ≡ classes.classes.items ++ class ∷ []) (givers_are : givers_of givers' ≡ givers_of givers ++ giver ∷ [])
    (gets : AllOf (GetsSeat seats) olds news) (room : vec_capacity classes'.classes ≡ vec_capacity classes.classes)
    (givers_room : vec_capacity givers'.givers ≡ vec_capacity givers.givers) where
  sizes_more : class_sizes classes' ≡ spec_sizes (done ++ spec ∷ [])
  sizes_more = simp (classes_are, map_push, was.sizes_are, new.size_is)

  classes_more : AreClasses classes'
  classes_more =
      let sizes : RiseFrom 0 (class_sizes classes') = rw sizes_more rise in
      let end = at_end classes.classes.items class in
      grind (arith, length_push classes.classes.items class, as_many was, few, sizes, end, classes_are, last, new.terms_are, was.givers_are.are.terms)

  claimant_more : (i : ℕ) (old now : ClaimSeat) (s : ClassSeat) → IsNewClaimant classes i old → IsNewSeat IsBufferOf class.ring i s
      → GetsOne s old now → IsNewClaimant classes' i now
  claimant_more i old now s is seat got =
      let his : IsHisSeat i 0 class s = grind (arith, seat, new_ordered {N = Unit {0}} i) in
      let end = at_end old.seats.items s in
      let knows : (k : ℕ) (t : ClassSeat) → get_elem? now.seats.items k ≡ some t → seat_memo t ≡ new_memo i =
      grind (arith, end, got.0, is.knows, seat.knows) in
      record {
        is_claimant = record {
          are = classes_more;
          all = grind (arith, classes_are, got.0, length_push {X = Class}, length_push {X = ClassSeat}, is.is_claimant.all);
          room = got.1 ∙ is.is_claimant.room ∙ sym room;
          each = rw (classes_are, got.0, got.2, got.3) (both_more (λ k. IsHisSeat old.number old.claims) classes.classes.items old.seats.items class s
              (sym is.is_claimant.all) is.is_claimant.each (rw (is.number_is, is.no_claims) his));
        };
        number_is = got.2 ∙ is.number_is;
        no_claims = got.3 ∙ is.no_claims;
        knows = knows;
        no_logs = λ k. grind (arith, knows k);
      }

  -- one class more
  pub class_made : AreNewClasses (done ++ spec ∷ []) limit classes' givers' news
  class_made = record {
    sizes_are = sizes_more;
    givers_are = record {
      are = classes_more;
      all = grind (arith, classes_are, givers_are, length_push {X = Class}, length_push {X = Giver}, was.givers_are.all);
      room = givers_room ∙ was.givers_are.room ∙ sym room;
      each = rw (classes_are, givers_are) (both_more (λ i (class : Class). IsGiverOf class.ring) classes.classes.items (givers_of givers) class giver
          (sym was.givers_are.all) was.givers_are.each new.is_giver);
    };
    each_giver = rw givers_are (both_more (λ i (spec : ClassSpec). IsNewGiver spec.number limit) done (givers_of givers) spec giver
        (omega (arith, as_many was, was.givers_are.all)) was.each_giver new.is_new);
    all_made = gets.as_many ∙ was.all_made;
    each = λ i now at.
        let got = got_of seats gets (new.seats_are.all_made ∙ sym was.all_made) i now at in
        claimant_more i got.0 now got.1 (was.each i got.0 got.2) (new.seats_are.each i got.1 got.3) got.4;
  }
