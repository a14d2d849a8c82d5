use Rattle.main_function.proofs.Names.{◌≡◌, length, refl, arith, subst, length-map, at_length, AllOf, OnlyWelcomes, IsPassOf, pass_memo, givers_of, get_elem?, some, drop_all, at_index, at_map, none_from, memos_of, ◌-◌, at_map_back}
use Rattle.main_function.proofs.HoldLemmas.{holding_more, stood_there}
use Rattle.main_function.proofs.resting.hold_all.Goals.{After-index-passes-left as In-Loop}
use Rattle.main_function.proofs.resting.hold_all.Goals as goal

pub loop-left-init : goal.loop-left-init
loop-left-init g c = record {
  mine = c.requires.mine;
  few = omega arith;
  long = refl;
  counts = refl;
  told = rw (drop_all (length c.args.passes.now) (memos_of g.P.HasPass.its c.args.passes.now) (omega (arith, length-map c.args.passes.now (λ has. pass_memo (g.P.HasPass.its has))))) refl;
  came_so_far = 0;
  so_many = omega arith;
  givers = grind arith;
  stay = none_from (omega arith);
  held = λ j now low at. absurd (omega (arith, low, at_length c.args.passes.now j now at));
}

-- the last pass that is not held yet
here : (g : _) (c : In-Loop g) → get_elem? c.loop-left.passes (c.loop-left.left - 1) ≡ some c.index-passes-left.result
here g c = at_index c.loop-left.passes (c.loop-left.left - 1) c.index-passes-left.result (omega (arith, c.loop-left-test.true, c.loop-left.invariant.few, c.loop-left.invariant.stay.as_many)) c.index-passes-left.is

its : (g : _) (c : In-Loop g) → IsPassOf c.args.shared.now (g.P.HasPass.its c.index-passes-left.result) × ((pass_memo (g.P.HasPass.its c.index-passes-left.result)).number ≡ c.loop-left.left - 1)
its g c = c.requires.passes.each (c.loop-left.left - 1) _ (at_map g.P.HasPass.its c.args.passes.now (c.loop-left.left - 1) _ (stood_there c.loop-left.invariant (c.loop-left.left - 1) _ (omega (arith, c.loop-left-test.true)) (here g c)))

pub hold-requires-clause-pass : goal.hold-requires-clause-pass
hold-requires-clause-pass g c =
    let d = (goal.at.hold-requires-clause-pass g c).After-index-passes-left in
    rw (← c.index-passes-left.is) (its g d).0

pub loop-left-preserved : goal.loop-left-preserved
loop-left-preserved g c =
    let d = (goal.at.loop-left-preserved g c).After-index-passes-left in
    holding_more (c.loop-left.left - 1) c.index-passes-left.result c.hold.new.self (omega (arith, c.loop-left-test.true)) c.loop-left.invariant (here g d) (its g d).0 (its g d).1
    (omega (arith, c.requires.passes.all, length-map c.args.passes.now g.P.HasPass.its)) c.hold.ensures.mine
    (rw (← c.index-passes-left.is) at c.hold.ensures.held) (rw (← c.index-passes-left.is) at c.hold.ensures.stays)

pub returns-clause-givers : goal.returns-clause-givers
returns-clause-givers g c =
    let was = c.loop-left.invariant in
    subst (λ n. AllOf (λ i. OnlyWelcomes n) (givers_of c.args.desk.now.givers) (givers_of c.loop-left.desk.givers)) (omega (arith, was.so_many, c.loop-left-test.false)) was.givers

pub returns-clause-held : goal.returns-clause-held
returns-clause-held g c =
    let was = c.loop-left.invariant in
    let many = length-map c.loop-left.passes g.P.HasPass.its in
    record {
      all = omega (arith, many, was.stay.as_many, was.long, c.requires.passes.all, length-map c.args.passes.now g.P.HasPass.its);
      each = λ j pass at.
          let found = at_map_back g.P.HasPass.its c.loop-left.passes j pass at in
          rw (← found.2) (was.held j found.0 (omega (arith, c.loop-left-test.false)) found.1);
    }
