-- What the steps of giving back keep.
use Rattle.buffer_classes.proofs.Names.{◌≡◌, List, [], ◌∷◌, ◌++◌, refl, length, arith, at_last, at_longer, at_snoc, AllAdmitted}

module _ {A : Type 0} (Admits : A → Type 0) (xs : List A) (x : A) {ys : List A} (is : ys ≡ xs ++ x ∷ []) where
  -- what is admitted of a list with one more
  pub admitted_more : AllAdmitted Admits xs → Admits x → AllAdmitted Admits ys
  admitted_more all one = grind (arith, is, at_snoc xs x, all, one)

  pub admitted_before : AllAdmitted Admits ys → AllAdmitted Admits xs
  admitted_before all = λ j y e. all j y (rw is (at_longer xs (x ∷ []) j y e))

  pub admitted_last : AllAdmitted Admits ys → Admits x
  admitted_last all = all (length xs) x (rw is (at_last xs x (length xs) refl))
