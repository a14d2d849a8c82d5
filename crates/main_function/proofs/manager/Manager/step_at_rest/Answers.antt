use Rattle.main_function.proofs.Names.{◌≡◌, ◌∙◌, ◌++◌, DeskMemo, length, length-map, map, came, desk_memo, ap, arith, refl, pass_memo, map-map, all_then, memos_of}
use Rattle.main_function.proofs.ClosingLemmas.{closed_by, mine_back}
use Rattle.main_function.proofs.QuickLemmas.{close_is_quick, rest_is_quick}
use Rattle.main_function.proofs.RestingLemmas.{all_again, as_many, back_now, held_still}
use Rattle.main_function.proofs.WelcomeLemmas.{back_from, only_back}
use Rattle.main_function.proofs.manager.Manager.step_at_rest.Goals.{After-step}
use Rattle.main_function.proofs.manager.Manager.step_at_rest.Goals as goal

pub step-requires-clause-mine : goal.step-requires-clause-mine
step-requires-clause-mine g c =
    mine_back g.C.Chain.stands g.L.Log.noted g.C.Chain.events g.C.Chain.kept c.args.shared.now c.args.self.now c.hold_all.new.desk (memos_of g.P.HasPass.its c.args.passes.now)
    c.hold_all.ensures.told c.requires.mine c.hold_all.ensures.mine c.hold_all.ensures.counts

pub release_all-requires-clause-held : goal.release_all-requires-clause-held
release_all-requires-clause-held g c = held_still c.hold_all.ensures.held c.step.ensures.turned.back_is c.step.ensures.turned.buffers.gave

pub returns-clause-mine : goal.returns-clause-mine
returns-clause-mine g c = grind (arith, c.step.ensures.mine, c.release_all.ensures.mine, c.release_all.ensures.moved.memo_is, c.release_all.ensures.moved.counts)

-- what the desk knows of all passes once it holds them, and after the turn
held : (g : _) (c : After-step g) → (desk_memo c.hold_all.new.desk).back ≡ map came (memos_of g.P.HasPass.its c.args.passes.now)
held g c =
    let passes = map g.P.HasPass.its c.args.passes.now in
    rw (c.hold_all.ensures.told, ← map-map pass_memo g.P.HasPass.its c.args.passes.now) (back_from 0 passes (desk_memo c.args.self.now.desk)
    (λ j pass at. omega (arith, (c.requires.passes.each j pass at).1)) (omega (arith, c.requires.passes.all)))

after_turn : (g : _) (c : After-step g) → (desk_memo c.step.new.self.desk).back ≡ map came (memos_of g.P.HasPass.its c.args.passes.now)
after_turn g c = c.step.ensures.turned.back_is ∙ held g c

many : (g : _) (c : After-step g) → length (memos_of g.P.HasPass.its c.args.passes.now) ≡ length c.args.passes.now
many g c = length-map c.args.passes.now (λ has. pass_memo (g.P.HasPass.its has))

pub returns-clause-rested : goal.returns-clause-rested
returns-clause-rested g c =
    let d = (goal.at.returns-clause-rested g c).After-step in
    let did = c.step.ensures in
    let memos = memos_of g.P.HasPass.its c.args.passes.now in
    record {
      mid = c.step.new.self;
      closed = closed_by g.C.Chain.stands g.L.Log.noted g.C.Chain.events g.C.Chain.kept c.args.shared.now c.args.self.now c.hold_all.new.desk memos c.hold_all.ensures.told
          c.args.tick c.step.new.self (held g d) (rw (many g d) c.hold_all.ensures.givers) did.turned did.mine did.all_taken did.swept did.settled;
      new_is = refl;
      moved = rw (many g d, ← c.hold_all.ensures.stays.as_many) c.release_all.ensures.moved;
      stands_then = λ config turns is. grind (arith, is, c.release_all.ensures.moved.memo_is);
      remembers = c.release_all.ensures.remembers ∙ ap (λ released. released ++ memos_of g.P.HasPass.its c.release_all.new.passes)
          (did.turned.released_is ∙ ap (λ (k : DeskMemo). k.released) (c.hold_all.ensures.told ∙ (only_back memos (desk_memo c.args.self.now.desk)).0));
      classes_remember = rw (many g d, ← c.hold_all.ensures.stays.as_many) c.release_all.ensures.classes;
      as_many = as_many g.P.HasPass.its c.args.shared.now c.step.new.self.desk c.args.passes.now c.release_all.new.passes c.release_all.ensures.passes (after_turn g d);
      go_on = back_now g.P.HasPass.its c.args.shared.now c.step.new.self.desk c.args.passes.now c.release_all.new.passes c.release_all.ensures.passes (after_turn g d);
    }

pub returns-clause-quick : goal.returns-clause-quick
returns-clause-quick g c =
    let d = (goal.at.returns-clause-quick g c).After-step in
    let n = length c.args.passes.now in
    let old = c.args.self.now.desk in
    let only = only_back (memos_of g.P.HasPass.its c.args.passes.now) (desk_memo old) in
    rest_is_quick c.args.shared.now n old c.step.new.self.desk c.release_all.new.desk (rw (← c.hold_all.ensures.stays.as_many) c.release_all.ensures.moved)
    (close_is_quick c.args.shared.now n old c.hold_all.new.desk c.step.new.self.desk
    (grind (arith, c.hold_all.ensures.told, only.1, many g d)) c.hold_all.ensures.givers c.step.ensures.quick)

pub returns-clause-passes : goal.returns-clause-passes
returns-clause-passes g c =
    let d = (goal.at.returns-clause-passes g c).After-step in
    let long = ap length (after_turn g d) in
    all_again g.P.HasPass.its c.args.shared.now c.step.new.self.desk c.args.passes.now c.release_all.new.passes c.release_all.ensures.passes (after_turn g d)
    c.args.self.now.desk (omega (arith, long, many g d, length-map (memos_of g.P.HasPass.its c.args.passes.now) came, c.requires.passes.all, length-map c.args.passes.now g.P.HasPass.its))

pub returns-clause-stays : goal.returns-clause-stays
returns-clause-stays g c = all_then c.hold_all.ensures.stays c.release_all.ensures.stays (λ i old mid new. g.P.HasPass.stays_on old mid new)
