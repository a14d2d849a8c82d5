use Rattle.report_api.proofs.Names.{arith, refl}
use Rattle.report_api.proofs.WelcomeLemmas.{held_now, tied_welcome}
use Rattle.report_api.proofs.desk.Desk.hold.Goals as goal

pub returns-clause-mine : goal.returns-clause-mine
returns-clause-mine c =
    let tied = tied_welcome c.requires.pass c.requires.mine.givers.all c.requires.mine.tied c.hold-2.ensures.told in
    grind (arith, c.requires.mine, c.hold.ensures, c.hold-2.ensures.mine, tied)

pub returns-clause-held : goal.returns-clause-held
returns-clause-held c = held_now c.requires.pass _ c.hold.ensures.held c.hold-2.ensures.held c.hold-2.ensures.same refl
