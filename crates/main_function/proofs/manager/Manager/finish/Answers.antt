use Rattle.main_function.proofs.Names.{◌≡◌, length, length-map, map, came, desk_memo, pass_memo, arith}
use Rattle.main_function.proofs.ClosingLemmas.{closed_by, mine_back}
use Rattle.main_function.proofs.QuickLemmas.{close_is_quick}
use Rattle.main_function.proofs.WelcomeLemmas.{back_from, only_back}
use Rattle.main_function.proofs.manager.Manager.finish.Goals as goal

pub step-requires-clause-mine : goal.step-requires-clause-mine
step-requires-clause-mine g c =
    mine_back g.C.Chain.stands g.L.Log.noted g.C.Chain.events g.C.Chain.kept c.args.shared.now c.args.self.now c.welcome_all.new.desk (map pass_memo c.args.passes.now.items)
    c.welcome_all.ensures.told c.requires.mine c.welcome_all.ensures.mine c.welcome_all.ensures.counts

pub returns-clause-closed : goal.returns-clause-closed
returns-clause-closed g c =
    let passes = c.args.passes.now.items in
    let old = c.args.self.now.desk in
    let back : (desk_memo c.welcome_all.new.desk).back ≡ map came (map pass_memo passes) =
    rw c.welcome_all.ensures.told (back_from 0 passes (desk_memo old) (λ j pass at. omega (arith, (c.requires.passes.each j pass at).1))
    (omega (arith, c.requires.passes.all))) in
    closed_by g.C.Chain.stands g.L.Log.noted g.C.Chain.events g.C.Chain.kept c.args.shared.now c.args.self.now c.welcome_all.new.desk (map pass_memo passes)
    c.welcome_all.ensures.told c.args.tick c.step.new.self back (rw (length-map passes pass_memo) c.welcome_all.ensures.givers)
    c.step.ensures.turned c.step.ensures.mine c.step.ensures.all_taken c.step.ensures.swept c.step.ensures.settled

pub returns-clause-quick : goal.returns-clause-quick
returns-clause-quick g c =
    let passes = c.args.passes.now.items in
    let old = c.args.self.now.desk in
    let only = only_back (map pass_memo passes) (desk_memo old) in
    close_is_quick c.args.shared.now (length passes) old c.welcome_all.new.desk c.step.new.self.desk
    (grind (arith, c.welcome_all.ensures.told, only.1, length-map passes pass_memo)) c.welcome_all.ensures.givers c.step.ensures.quick
