use Rattle.main_function.proofs.Names.{◌≡◌, ◌∙◌, [], length, refl, sym, arith, length-map, at_length, get_elem?, some, at_index, all_below, giver_memo, some-injective, at_map_back, take_all}
use Rattle.main_function.proofs.HoldLemmas.{all_moved, all_seats, next_pass, none_went, releasing_more}
use Rattle.main_function.proofs.resting.release_all.Goals.{After-index-passes-i as In-Loop}
use Rattle.main_function.proofs.resting.release_all.Goals as goal

pub loop-i-init : goal.loop-i-init
loop-i-init g c = record {
  mine = c.requires.mine;
  went_on = λ j now low. absurd (omega arith);
  counts = refl;
  went = none_went _;
  seats = record { as_many = refl; each = λ k old new stood is. ([], rw (some-injective old new (sym stood ∙ is)) (none_went (giver_memo new))) };
  stay = grind arith;
}

-- the first pass that is held
here : (g : _) (c : In-Loop g) → get_elem? c.loop-i.passes c.loop-i.i ≡ some c.index-passes-i.result
here g c = at_index c.loop-i.passes c.loop-i.i c.index-passes-i.result (omega (arith, c.loop-i-test.true, c.loop-i.auto.passes)) c.index-passes-i.is

pub release-requires-clause-held : goal.release-requires-clause-held
release-requires-clause-held g c =
    let d = (goal.at.release-requires-clause-held g c).After-index-passes-i in
    rw (← c.index-passes-i.is) (next_pass c.requires.held c.loop-i.invariant _ (here g d))

pub loop-i-preserved : goal.loop-i-preserved
loop-i-preserved g c =
    let d = (goal.at.loop-i-preserved g c).After-index-passes-i in
    releasing_more c.requires.held c.loop-i.invariant c.index-passes-i.result (here g d) c.release.new.self c.release.ensures.mine c.release.ensures.released
    (rw (← c.index-passes-i.is) at c.release.ensures.stays)

pub returns-clause-moved : goal.returns-clause-moved
returns-clause-moved g c = all_moved c.requires.held c.loop-i.invariant (length c.args.passes.now) (omega (arith, c.loop-i-test.false))

pub returns-clause-classes : goal.returns-clause-classes
returns-clause-classes g c = all_seats c.requires.held c.loop-i.invariant c.requires.mine (length c.args.passes.now) (omega (arith, c.loop-i-test.false)) refl

pub returns-clause-passes : goal.returns-clause-passes
returns-clause-passes g c =
    let was = c.loop-i.invariant in (
      omega (arith, c.requires.held.all, was.stay.as_many, length-map c.args.passes.now g.P.HasPass.its, length-map c.loop-i.passes g.P.HasPass.its),
      λ k pass at.
          let found = at_map_back g.P.HasPass.its c.loop-i.passes k pass at in
          rw (← found.2) (was.went_on k found.0 (omega (arith, c.loop-i-test.false, c.loop-i.auto.passes, at_length c.loop-i.passes k found.0 found.1)) found.1),
    )

pub returns-clause-remembers : goal.returns-clause-remembers
returns-clause-remembers g c =
    let was = c.loop-i.invariant in
    rw (take_all c.loop-i.i c.loop-i.passes (omega (arith, c.loop-i-test.false, c.loop-i.auto.passes))) at was.went.remembers

pub returns-clause-stays : goal.returns-clause-stays
returns-clause-stays g c = all_below c.loop-i.invariant.stay (omega (arith, c.loop-i-test.false))
