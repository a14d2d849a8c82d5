use Rattle.main_function.proofs.Names.{◌≡◌, ℕ, ◌+◌, map, length, AllAdmitted, AllOf, givers_of, IsDeskOf, IsPassOf, all_back, desk_memo, pass_memo, to_give_back, vec_capacity, OnlyWelcomes}
use Rattle.main_function.proofs.closing.welcome_all.Given as goal

-- once those that are left come back too, all passes did
abbrev pub invariant-loop-pass : goal.invariant-loop-pass
invariant-loop-pass l = record {
  mine : IsDeskOf l.shared l.desk;
  passes : AllAdmitted (IsPassOf l.shared) l.passes.items;
  told : all_back (map pass_memo l.passes.items) (desk_memo l.desk) ≡ all_back (map pass_memo l.initial.passes.items) (desk_memo l.initial.desk);
  counts : to_give_back l.desk ≡ to_give_back l.initial.desk;
  room : vec_capacity l.passes ≡ vec_capacity l.initial.passes;
  givers : (n : ℕ) × (n + length l.passes.items ≡ length l.initial.passes.items)
      × AllOf (λ i. OnlyWelcomes n) (givers_of l.initial.desk.givers) (givers_of l.desk.givers);
}

abbrev pub decreases-loop-pass : goal.decreases-loop-pass
decreases-loop-pass l = length l.passes.items
