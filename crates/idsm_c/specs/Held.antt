-- What a handle owns.
use Rattle.std.specs.Prelude.{Option, Some, None}
use base.Fml.{Fml, ftrue, fsep, fex, feq}
use denote.RattleType.{RattleType}
use denote.RawPtr.{Ptr, block_ptr, null_ptr, Testable}
use Rattle.std.specs.declared.alloc.Global.{Global}
use Rattle.std.specs.contracts.impls.GlobalAllocator.TheImpl.{ghosts}
use Rattle.std_alloc.specs.Box.Ownership.{box_owns}

-- a fact, as a formula
abbrev pub holds : Type 0 → Fml
holds A = fex A (λ _. ftrue)

module _ (R : RattleType) (IsFit : R.Denot → Type 0) where
  -- the box of a global allocator's at a pointer
  abbrev pub boxed : Global → Ptr → R.Denot → Fml
  boxed a p x = box_owns (ghosts.dealloc_token a) R p x

  -- the content is this value, which is fit, in its box
  abbrev pub filled : Ptr → Option R.Denot → Global × R.Denot → Fml
  filled p c x = fsep (feq (Option R.Denot) c (Some x.1)) (fsep (holds (IsFit x.1)) (boxed x.0 p x.1))

  -- nothing at null, and else a box with a fit value
  abbrev pub held : Ptr → Option R.Denot → Fml
  held null_ptr c = feq (Option R.Denot) c None
  held (block_ptr b o) c = fsep (holds (Testable (block_ptr b o))) (fex (Global × R.Denot) (filled (block_ptr b o) c))
