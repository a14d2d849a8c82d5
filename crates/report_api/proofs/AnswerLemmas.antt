-- What a call did to its pass at the report ring, in one.
use Rattle.report_api.proofs.Names.{◌≡◌, ℕ, ◌+◌, ◌-◌, ◌*◌, ◌≤◌, ◌<◌, List, [], ◌∷◌, ◌++◌, length, Some, Ok, Err, refl, arith, Ticket, Caller, ClaimTells, caller_memo, ticket_of, adds_mark, finishes, item_by, Act, Outcome, PassMemo, Lost, Got, lost_events, lost_contexts, queue_seats, pass_memo, Pass, Shared, claimed, holds_ticket, common_steps, first_fitting}
use Rattle.permit_ring.specs.declared.answer.Look.{Look}
use Rattle.report_api.specs.Answers.{Given, IsCall, PutsUnder, Reports, context_steps}
use Rattle.report_api.specs.declared.answer.Report.{Report as ReportAnswer}
use Rattle.report_api.specs.declared.answer.Report.TheVariants as reports

-- a call was made, with what became of it: so many events and contexts were marked as lost, at so many steps at most
pub record OneCall (old : PassMemo) (outcome : Outcome) (events contexts most : ℕ) (new : PassMemo) : Type 0 where
  pub number_is : new.number ≡ old.number
  pub calls_are : new.view.calls ≡ old.view.calls + 1
  pub log_is : new.log ≡ old.log ++ outcome ∷ []
  pub events_are : lost_events new ≡ lost_events old + events
  pub contexts_are : lost_contexts new ≡ lost_contexts old + contexts
  pub few_moves : length new.moves ≤ length old.moves + most

module _ (limit : ℕ) (old mid : PassMemo) where
  -- a claim that was lost
  pub lost_call : (look : Look) → ClaimTells limit old (Err look) mid → OneCall old (Lost look.claimed) 0 0 2 mid
  lost_call look tells = grind (arith, common_steps, claimed limit old (Err look) mid tells)

  -- and marked
  pub lost_event : (look : Look) (found : ℕ) (new : PassMemo) → ClaimTells limit old (Err look) mid → new ≡ adds_mark 0 found mid
      → OneCall old (Lost look.claimed) 1 0 3 new
  lost_event look found new tells marked = grind (arith, common_steps, claimed limit old (Err look) mid tells, marked)

  module _ (t : Ticket) (tells : ClaimTells limit old (Ok t) mid) (act : Act) where
    -- a claim whose ticket got its item
    pub put_call : (new : PassMemo) → new ≡ finishes (item_by mid act) mid → OneCall old (Got t.0 (item_by mid act)) 0 0 3 new
    put_call new put = grind (arith, common_steps, claimed limit old (Ok t) mid tells, put, holds_ticket limit old t mid tells)

    -- and then marked a lost context
    pub put_without : (found : ℕ) (new : PassMemo) → new ≡ adds_mark 1 found (finishes (item_by mid act) mid)
        → OneCall old (Got t.0 (item_by mid act)) 0 1 4 new
    put_without found new put = grind (arith, common_steps, claimed limit old (Ok t) mid tells, put, holds_ticket limit old t mid tells)

-- a report that was put under the ticket that its claim got
pub put_tells : {shared : Shared} {given : Given} {old : Pass} (t : Ticket) (seat : Caller) (answer : ReportAnswer) (new : Pass) → IsCall shared given (pass_memo old)
    → ClaimTells (queue_seats shared.queue) (pass_memo old) (Ok t) (caller_memo seat) → ticket_of seat ≡ Some t
    → PutsUnder shared given (record { seat = seat; claimant = old.claimant; spare = old.spare }) answer new → Reports shared given old answer new
put_tells {old = old} t seat (reports.Accepted u) new call tells held put =
    let same : t ≡ u = cc in
    let tells = rw same at tells in
    record { mine = put.mine; told = (call, (_, tells, put.told)); classes = put.classes; steps = omega (arith, put.few, (claimed _ (pass_memo old) (Ok u) (caller_memo seat) tells).few_moves) }
put_tells {old = old} t seat (reports.WithoutContext u looks) new call tells held put =
    let same : t ≡ u = cc in
    let tells = rw same at tells in
    record { mine = put.mine; told = (call, (_, tells, put.told)); classes = put.classes; steps = omega (arith, put.few, (claimed _ (pass_memo old) (Ok u) (caller_memo seat) tells).few_moves) }
put_tells t seat _ new call tells held put = absurd put.told

-- the classes that hold some bytes are those from the first one on
pub steps_for : (sizes bytes : List ℕ) → 0 < length bytes
    → context_steps sizes bytes ≡ 2 * (length sizes - first_fitting (length bytes) sizes) + 1
steps_for sizes [] none = absurd (omega (arith, none))
steps_for sizes (byte ∷ bytes) any = refl
