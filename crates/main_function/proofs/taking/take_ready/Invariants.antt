use Rattle.main_function.proofs.Names.{◌≡◌, ◌≤◌, ◌-◌, ◌^◌, length, vec_capacity, IsDeskOf, desk_memo, to_give_back, queue_positions}
use Rattle.main_function.proofs.TakingLemmas.{TakesOn}
use Rattle.main_function.proofs.taking.take_ready.Given as goal

-- each take so far had an item
abbrev pub invariant-loop-item : goal.invariant-loop-item
invariant-loop-item l = record {
  mine : IsDeskOf l.shared l.desk;
  within : length (desk_memo l.desk).notes ≤ 2 ^ 45;
  took : TakesOn l.shared.terms (queue_positions l.shared.queue) (desk_memo l.initial.desk) l.items.items (desk_memo l.desk);
  counts : to_give_back l.desk ≡ length l.items.items;
  same : l.desk.givers ≡ l.initial.desk.givers;
  room : vec_capacity l.items ≡ vec_capacity l.initial.items;
}

abbrev pub decreases-loop-item : goal.decreases-loop-item
decreases-loop-item l = queue_positions l.shared.queue - length l.items.items
