-- What a close answers, with its cause, and what it leaves.
use Rattle.std.specs.Prelude.{◌≡◌, ℕ, List, [], length, map}
use Rattle.report_api.specs.Passes.{pass_memo}
use Rattle.main_function.specs.{Closed, IsQuick}
use Rattle.main_function.specs.declared.rest.Totals.{Totals}
use Rattle.idsm_api.specs.declared.answer.Answer.{Answer}
use Rattle.idsm_api.specs.declared.answer.Answer.TheVariants.{Done}
use Rattle.idsm_api.specs.declared.caller.Caller.{Caller}
use Rattle.idsm_api.specs.declared.manager.Manager.{Manager}
use Rattle.idsm_api.specs.Callers.{AreCounted}
use Rattle.idsm_api.specs.Making.{passes_of}
use Rattle.idsm_api.specs.Roles.{chain_kept, chain_stands, manager_shares}
use Rattle.idsm_api.specs.Text.{Notes}
use Rattle.idsm_api.specs.Turning.{MayTurn, NothingMade, Refuses}
use Rattle.idsm_api.specs.Writing.{IsWritten}

-- nothing was counted
abbrev pub no_totals : Totals
no_totals = record { entries = 0; lost_events = 0; lost_contexts = 0 }

-- all these callers came back, in few steps, a last turn of this tick took all that was left, and all its messages are written
pub record CloseMade (tick : ℕ) (old : Manager) (callers : List Caller) (buffer : List ℕ) (new : Manager) (after : List ℕ) : Type 0 where
  pub may : MayTurn tick old (length buffer)
  pub closed : Closed chain_stands Notes chain_kept (manager_shares old) tick (map pass_memo (passes_of callers)) old.manager new.manager
  pub quick : IsQuick (manager_shares old) (length callers) old.manager.desk new.manager.desk
  pub shares : manager_shares new ≡ manager_shares old
  pub written : IsWritten new.manager.out.sent buffer after

-- each answer of a close with its cause: the manager, the callers that are left and the buffer after it
abbrev pub CloseTells : ℕ → Manager → List Caller → List ℕ → Answer → Manager → List Caller → List ℕ → Type 0
CloseTells tick old callers buffer Done new left after = CloseMade tick old callers buffer new after × (left ≡ [])
CloseTells tick old callers buffer refusal new left after = Refuses tick old (length buffer) refusal × NothingMade old buffer new after × (left ≡ callers)

-- the totals that a close answers: what the callers did; a refusal counts nothing
abbrev pub CountsTell : Answer → List Caller → Totals → Type 0
CountsTell Done callers totals = AreCounted callers totals
CountsTell refusal callers totals = totals ≡ no_totals
