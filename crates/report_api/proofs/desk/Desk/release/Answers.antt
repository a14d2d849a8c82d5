use Rattle.report_api.proofs.Names.{arith, refl, Pass, Desk}
use Rattle.report_api.proofs.ReleaseLemmas.{pass_again, tied_released}
use Rattle.report_api.proofs.desk.Desk.release.Goals as goal

abbrev after : goal.After-release-2 → Desk
after c = record c.args.self.now { taker = c.release.new.self; givers = c.release-2.new.self }

abbrev now : goal.After-release-2 → Pass
now c = record c.args.pass.now { seat = c.release.new.seat; claimant = c.release-2.new.seat }

pub returns-clause-mine : goal.returns-clause-mine
returns-clause-mine c =
    let did = c.release-2.ensures in
    let tied = tied_released c.args.shared.now c.args.self.now (after c) c.args.pass.now (now c) c.requires.mine c.requires.held c.release.ensures did.seat did.told in
    grind (arith, c.requires.mine, c.release.ensures, did.mine, tied)

pub returns-clause-pass : goal.returns-clause-pass
returns-clause-pass c =
    let did = c.release-2.ensures in
    pass_again c.args.shared.now c.args.self.now (after c) c.args.pass.now (now c) c.requires.mine c.requires.held c.release.ensures did.seat did.told did.same refl
