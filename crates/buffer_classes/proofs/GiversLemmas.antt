-- What the givers of all classes keep where one of them changes.
use Rattle.buffer_classes.proofs.Names.{◌≡◌, ℕ, ◌<◌, List, length, get_or, set, arith, length-set, at_index, at_map, at_set, ring_terms, Buffer, IsBufferOf, class_sizes, AreGiversOf, IsBufferIn, givers_of, IsGiverOf, Class, Giver, Givers, Classes, ◌+◌, ap, ◌∙◌, AllOf, some, get_elem?, vec_capacity}
use Rattle.buffer_classes.proofs.ByIndexLemmas.{Below, below_more}

module _ {classes : Classes} {givers : Givers} (are : AreGiversOf classes givers) (i : ℕ) (low : i < length (givers_of givers))
    {class : Class} (its : class ≡ get_or classes.classes.items i class) where
  -- the class at a place
  pub class_there : get_elem? classes.classes.items i ≡ some class
  class_there = at_index classes.classes.items i class (omega (arith, are.all)) its

  -- the giver there is its
  pub giver_there : {g : Giver} → g ≡ get_or (givers_of givers) i g → IsGiverOf class.ring g
  giver_there {g} at = are.each i class g class_there (at_index (givers_of givers) i g low at)

  -- with another giver there
  pub givers_with : {g : Giver} {new : Givers} → givers_of new ≡ set (givers_of givers) i g
      → vec_capacity new.givers ≡ vec_capacity givers.givers → IsGiverOf class.ring g → AreGiversOf classes new
  givers_with {g} is room one = record {
    are = are.are;
    all = ap length is ∙ length-set (givers_of givers) i g ∙ are.all;
    room = room ∙ are.room;
    each = λ j other h of there.
        let c = at_set (givers_of givers) i j g h (rw is at there) in
        grind (arith, c, class_there, of, one, are.each j other h);
  }

  -- and one more so
  pub givers_below : {R : ℕ → Giver → Giver → Type 0} {olds : List Giver} {g after : Giver} {new : Givers}
      → AllOf (Below R i) olds (givers_of givers) → g ≡ get_or (givers_of givers) i g → givers_of new ≡ set (givers_of givers) i after
      → vec_capacity new.givers ≡ vec_capacity givers.givers → IsGiverOf class.ring after → R i g after → AreGiversOf classes new × AllOf (Below R (i + 1)) olds (givers_of new)
  givers_below {g = g} {after = after} before at is room one did =
      (givers_with is room one, rw is (below_more i g after (at_index (givers_of givers) i g low at) did before))

  -- a buffer of the class's place and size is one of its own
  pub buffer_there : (b : Buffer) → i ≡ b.class → IsBufferIn (class_sizes classes) b → IsBufferOf (ring_terms class.ring) b
  buffer_there b here is =
      grind (arith, at_map (λ (class : Class). class.size) classes.classes.items i class, are.are.terms i class, class_there, here, is)
