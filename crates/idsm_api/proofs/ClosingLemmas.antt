-- All callers of a manager, and how they come back to it.
use Rattle.idsm_api.proofs.Names.{common_steps, ◌≡◌, ℕ, ◌∙◌, List, [], ◌∷◌, map, refl, sym, arith, length-map, Caller, Manager, manager_shares, at_length, there, accepted_in, desk_memo, PassMemo, lost_events, missing_in, pass_memo, room_of, sum_by, AreCountsOf, AreAllPasses}
use Rattle.law_closing.proofs.{or_at}
use Rattle.main_function.specs.declared.rest.Totals.{Totals}
use Rattle.report_queue.proofs.{at_map_back}
use Rattle.idsm_api.specs.declared.answer.Answer.{Answer}
use Rattle.idsm_api.specs.declared.answer.Answer.TheVariants.{SmallBuffer, Spent, TickBack, TickTooLarge}
use Rattle.idsm_api.specs.{AreAllCallers, AreCounted, AreSameCallers, passes_of, IsFitManager, most_bytes, MayTurn, Refuses}

-- all callers of a manager are still that after calls of their own
pub called_on : {manager : Manager} {olds news : List Caller} → AreAllCallers manager olds → AreSameCallers olds news → AreAllCallers manager news
called_on {manager} {olds} {news} are same = record {
  all = same.as_many ∙ are.all;
  each = λ i caller at.
      let low = at_length news i caller at in
      let was = there olds i (omega (arith, same.as_many, low)) in
      let here = rw (or_at news i caller caller at, or_at olds i caller was.0 was.1) at (same.each i caller low) in
      let first = are.each i was.0 was.1 in
      (here.0, here.1.shares ∙ first.1, here.1.number ∙ first.2);
}

-- their passes are all passes of the making
pub all_passes : {manager : Manager} {callers : List Caller} → IsFitManager manager → AreAllCallers manager callers
    → AreAllPasses (manager_shares manager) (desk_memo manager.manager.desk) (passes_of callers)
all_passes {manager} {callers} fit are =
    let taker = fit.is_manager.desk_is.taker in
    record {
      all = length-map callers (λ (caller : Caller). caller.pass) ∙ are.all ∙ sym taker.seats_are ∙ taker.made_are;
      each = λ i pass at.
          let is = at_map_back (λ (caller : Caller). caller.pass) callers i pass at in
          let known = are.each i is.0 is.1 in
          rw (← is.2) (rw known.1 at known.0, known.2);
    }

-- a sum over what passes did is one over what their callers did
summed : (of : PassMemo → ℕ) (callers : List Caller)
    → sum_by of (map pass_memo (passes_of callers)) ≡ sum_by (λ (caller : Caller). of (pass_memo caller.pass)) callers
summed of [] = refl
summed of (caller ∷ callers) = let rest = summed of callers in grind (arith, common_steps, rest)

-- so what is counted of passes is counted of their callers
pub counted : (callers : List Caller) (totals : Totals) → AreCountsOf (map pass_memo (passes_of callers)) totals → AreCounted callers totals
counted callers totals counts = record {
  entries_are = counts.entries_are ∙ summed accepted_in callers;
  lost_events_are = counts.lost_events_are ∙ summed lost_events callers;
  lost_contexts_are = counts.lost_contexts_are ∙ summed (λ (pass : PassMemo). missing_in pass.log) callers;
}

-- the output has just the room for the messages of a turn
pub room_is : {manager : Manager} → IsFitManager manager → room_of manager.manager.out ≡ most_bytes (manager_shares manager)
room_is fit =
    let mine = fit.is_manager in
    rw (mine.roomy.out_room, mine.largest_is, mine.positions_are, mine.events_are) refl

-- a turn that may be made is not refused
pub never_refused : {tick room : ℕ} {manager : Manager} (answer : Answer) → MayTurn tick manager room → Refuses tick manager room answer → ⊥
never_refused SmallBuffer may low = omega (arith, may.can.room, low)
never_refused Spent may spent = omega (arith, may.can.few, spent.1)
never_refused TickBack may back = omega (arith, may.later, back.1)
never_refused TickTooLarge may large = omega (arith, may.within, large.2)
never_refused other may none = none
