-- The context data buffers that a turn gives back.
use Rattle.std.specs.Prelude.{◌≡◌, ℕ, ◌≤◌, List, ◌++◌, length}
use mathlib.Core.Option.{some}
use lib.ListN.{get_elem?}
use Rattle.std.specs.List.Sorted.{IsPermutation}
use Rattle.main_function.specs.Names.{Buffer, AllOf, GaveBack, Giver}

-- the buffer is of one of the classes of these sizes, and holds no more than it can
pub record IsHeld (sizes : List ℕ) (buf : Buffer) : Type 0 where
  pub size_is : get_elem? sizes buf.class ≡ some buf.size
  pub fits : length buf.bytes ≤ buf.size

-- all buffers that came, and those kept before, are kept now or given back to their classes
pub record ReturnsBuffers (came kept_before kept_now : List Buffer) (old new : List Giver) : Type 0 where
  pub back : List Buffer
  pub same : IsPermutation (came ++ kept_before) (back ++ kept_now)
  pub gave : AllOf (GaveBack back) old new
