use Rattle.main_function.proofs.Names.{◌≡◌, ◌+◌, ◌++◌, ◌∷◌, [], arith, subst, refl, ◌∙◌, AllOf, IsPassOf, OnlyWelcomes, givers_of, common_steps, desk_memo, nil_from_length, admitted_before, admitted_last}
use Rattle.main_function.proofs.WelcomeLemmas.{back_last, only_more}
use Rattle.main_function.proofs.closing.welcome_all.Goals as goal

pub loop-pass-init : goal.loop-pass-init
loop-pass-init c = record {
  mine = c.requires.mine;
  passes = λ i pass at. (c.requires.passes.each i pass at).0;
  told = refl;
  counts = refl;
  room = refl;
  givers = (0, omega arith, grind arith);
}

pub welcome-requires-clause-pass : goal.welcome-requires-clause-pass
welcome-requires-clause-pass c = admitted_last (IsPassOf c.args.shared.now) c.pop.new.self.items c.in-Some.pass
    (rw c.in-Some.is at c.pop.ensures.items) c.loop-pass.invariant.passes

pub loop-pass-preserved : goal.loop-pass-preserved
loop-pass-preserved c =
    let left = c.pop.new.self.items in
    let is : c.loop-pass.passes.items ≡ left ++ c.in-Some.pass ∷ [] = rw c.in-Some.is at c.pop.ensures.items in
    let was = c.loop-pass.invariant in
    let its = admitted_last (IsPassOf c.args.shared.now) left c.in-Some.pass is was.passes in
    let more = only_more was.givers.0 c.args.shared.now c.in-Some.pass _ _ _ its was.mine.givers.all was.givers.2 c.welcome.ensures.givers in
    record {
      mine = c.welcome.ensures.mine;
      passes = admitted_before (IsPassOf c.args.shared.now) left c.in-Some.pass is was.passes;
      told = rw (c.welcome.ensures.came.told, ← back_last left c.in-Some.pass (desk_memo c.loop-pass.desk), ← is) was.told;
      counts = c.welcome.ensures.came.counts ∙ was.counts;
      room = c.pop.ensures.capacity ∙ was.room;
      givers = (was.givers.0 + 1, grind (arith, common_steps, is, was.givers.1), more);
    }

pub returns-clause-told : goal.returns-clause-told
returns-clause-told c = rw (nil_from_length c.loop-pass.passes.items (omega (arith, c.in_default.ensures.cases.0))) at c.loop-pass.invariant.told

pub returns-clause-givers : goal.returns-clause-givers
returns-clause-givers c =
    let was = c.loop-pass.invariant.givers in
    subst (λ n. AllOf (λ i. OnlyWelcomes n) (givers_of c.args.desk.now.givers) (givers_of c.loop-pass.desk.givers))
    (omega (arith, was.1, c.in_default.ensures.cases.0)) was.2
