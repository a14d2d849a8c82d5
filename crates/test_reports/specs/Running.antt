-- What tests keep from one step to the next.
use Rattle.std.specs.Prelude.{◌≡◌, ℕ, ◌⊎◌, List, [], length}
use Rattle.buffer_classes.specs.Buffers.{Buffer}
use Rattle.report_api.specs.{desk_memo, DeskMemo, IsPassOf, pass_memo, sizes_of}
use Rattle.report_api.specs.declared.pass.Pass.{Pass}
use Rattle.report_api.specs.declared.shared.Shared.{Shared}
use Rattle.main_function.specs.Standing.{AreAllPasses, IsManagerOf}
use Rattle.main_function.specs.declared.making.Made.{Made}

-- the pass is of the making, and of the same caller
pub record IsSamePass (shared : Shared) (old new : Pass) : Type 0 where
  pub is_pass : IsPassOf shared new
  pub same : (pass_memo new).number ≡ (pass_memo old).number

-- these are all passes of the making, or none, since the manager took them back
abbrev pub ArePassesLeft : Shared → DeskMemo → List Pass → Type 0
ArePassesLeft shared desk passes = (passes ≡ []) ⊎ AreAllPasses shared desk passes

module _ {C L : Type 0} (events : C → ℕ) (kept : C → List Buffer) where
  -- the manager is the one of its making, between two calls, with so many classes
  pub record IsRunning (classes : ℕ) (made : Made C L) : Type 0 where
    pub manager_is : IsManagerOf events kept made.shared made.manager
    pub classes_are : classes ≡ length (sizes_of made.shared)
    pub passes_are : ArePassesLeft made.shared (desk_memo made.manager.desk) made.passes.items
