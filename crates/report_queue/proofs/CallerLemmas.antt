-- How a caller stands after each of its calls.
use Rattle.report_queue.proofs.Names.{at_end, at_set, ended, rested_ordered, length-set, ap, ◌∙◌, None, Some, ◌≡◌, ℕ, ◌+◌, ◌≤◌, List, [], ◌∷◌, ◌++◌, length, Result, Ok, Err, arith, common_steps, nat_tests, ticket_in, Ticket, Outcome, Lost, Got, SeatMemo, Item, ClaimTells, NamesItsCalls, Queue, QueueSeat, Taker, IsCallerOf, IsNextCaller, IsTakerOf, GoesOn, Releases, Welcomes, admits_all, caller_memo, taker_memo, ticket_of, resumed, resumes, welcomes, IsKeeperOf, IsSeatOf, filled_of, vacant_of}
use Rattle.permit_ring.specs.declared.answer.Look.{Look}

module _ {N : Type 0} where
  -- the log after a call: one lost call more where no position was free
  abbrev pub and_answer : List (Outcome N) → Result Ticket Look → List (Outcome N)
  and_answer log (Ok ticket) = log
  and_answer log (Err look) = log ++ Lost look.claimed ∷ []

  -- what a claim makes of its caller: one call more, with what became of it, in one step or two
  pub record Claims (old : SeatMemo N) (answer : Result Ticket Look) (new : SeatMemo N) : Type 0 where
    pub number_is : new.number ≡ old.number
    pub calls_are : new.view.calls ≡ old.view.calls + 1
    pub log_is : new.log ≡ and_answer old.log answer
    pub marks0_are : new.view.marks0 ≡ old.view.marks0
    pub marks1_are : new.view.marks1 ≡ old.view.marks1
    pub few_moves : length new.moves ≤ length old.moves + 2

  pub claimed : (limit : ℕ) (old : SeatMemo N) (answer : Result Ticket Look) (new : SeatMemo N) → ClaimTells limit old answer new
      → Claims old answer new
  claimed limit old (Ok ticket) new tells = grind (arith, common_steps, nat_tests, tells)
  claimed limit old (Err look) new tells = grind (arith, common_steps, nat_tests, tells)

  -- a claim that got a ticket holds it
  pub holds_ticket : (limit : ℕ) (old : SeatMemo N) (ticket : Ticket) (new : SeatMemo N) → ClaimTells limit old (Ok ticket) new
      → ticket_in new.view.held ≡ ticket.0
  holds_ticket limit old ticket new tells = grind (arith, common_steps, tells)

pub names-claim : {N : Type 0} (i : ℕ) (log : List (Outcome (Item N))) (answer : Result Ticket Look) → NamesItsCalls i log
    → NamesItsCalls i (and_answer log answer)
names-claim i log (Ok ticket) names = names
names-claim i log (Err look) names = λ j t item e. grind (arith, names, at_end log (Lost look.claimed) (Got t item) j e)

module _ {P L T N : Type 0} (queue : Queue P L T N) (old new : Taker P L T N) (seat : QueueSeat P L T N) (mine : IsTakerOf queue old) where
  -- the taker that welcomes a caller, or holds it, knows of its calls
  pub welcomed : IsCallerOf queue seat → IsKeeperOf admits_all queue.ring new.keeper
      → taker_memo new ≡ welcomes (caller_memo seat) (taker_memo old)
      → (vacant_of new.keeper ≡ vacant_of old.keeper) × (filled_of new.keeper ≡ filled_of old.keeper) → Welcomes queue old seat new
  welcomed is keeps told counts =
      let memo = caller_memo seat in
      let back = (taker_memo old).back in
      let long = length-set back memo.number (Some (ended memo)) in
      grind (arith, mine, is, keeps, told, counts, at_set back memo.number, long)

  -- a caller that was held goes on
  pub gone_on : {before : QueueSeat P L T N} → IsNextCaller (taker_memo old) before → IsKeeperOf admits_all queue.ring new.keeper
      → IsSeatOf admits_all queue.ring seat.seat → ticket_of seat ≡ None → Releases (taker_memo old) (taker_memo new) (caller_memo seat)
      → (vacant_of new.keeper ≡ vacant_of old.keeper) × (filled_of new.keeper ≡ filled_of old.keeper) → GoesOn queue old seat new
  gone_on next keeps is idle told counts =
      let memo = next.memo in
      let back = (taker_memo old).back in
      let long = length-set back memo.number None in
      let ordered = rested_ordered memo (taker_memo old).offered next.held.in_order next.held.held.none_held next.held.held.not_armed in
      let same : told.memo ≡ memo = grind (arith, told.is_first, next.is_first) in
      let seat_is : caller_memo seat ≡ resumed (taker_memo old).offered memo = told.seat_is ∙ ap (resumed (taker_memo old).offered) same in
      let keeper_is : taker_memo new ≡ resumes memo (taker_memo old) =
      told.keeper_is ∙ ap (λ (m : SeatMemo (Item N)). resumes m (taker_memo old)) same in
      let caller : IsCallerOf queue seat = grind (arith, next.held, is, seat_is, ordered) in
      let mine_now : IsTakerOf queue new = grind (arith, mine, keeps, keeper_is, counts, at_set back memo.number, long) in
      record { mine = mine_now; caller = (caller, idle); told = told; counts = counts.1 }
