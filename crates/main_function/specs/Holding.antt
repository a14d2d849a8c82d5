-- What a desk makes of a pass that it holds or releases.
use Rattle.main_function.specs.Names.{Shared, AllOf, givers_of, Desk, Pass, pass_memo, IsPassOf}
use Rattle.buffer_classes.specs.{Freed, Welcomed, memo_at}
use Rattle.permit_ring.specs.{ended}
use Rattle.report_queue.specs.{GoesOn, Welcomes}
use Rattle.report_api.specs.{IsHeldPass}

-- the pass was held, and is what it was but for that
pub record IsHeldBy (shared : Shared) (pass now : Pass) (old new : Desk) : Type 0 where
  pub came : Welcomes shared.queue old.taker pass.seat new.taker
  pub givers_are : AllOf (Welcomed pass.claimant) (givers_of old.givers) (givers_of new.givers)
  pub held : IsHeldPass shared (ended (pass_memo pass)) (λ i. ended (memo_at pass.claimant i)) now

-- the pass goes on
pub record IsReleasedBy (shared : Shared) (now : Pass) (old new : Desk) : Type 0 where
  pub is_pass : IsPassOf shared now
  pub told : GoesOn shared.queue old.taker now.seat new.taker
  pub givers_are : AllOf (Freed now.claimant) (givers_of old.givers) (givers_of new.givers)
