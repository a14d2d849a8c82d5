use Rattle.report_api.proofs.Names.{arith}
use Rattle.report_api.proofs.WelcomeLemmas.{tied_welcome}
use Rattle.report_api.proofs.desk.Desk.welcome.Goals as goal

pub returns-clause-mine : goal.returns-clause-mine
returns-clause-mine c =
    let tied = tied_welcome c.requires.pass c.requires.mine.givers.all c.requires.mine.tied c.welcome-2.ensures.told in
    grind (arith, c.requires.mine, c.welcome.ensures, c.welcome-2.ensures.mine, tied)
