use Rattle.std.specs.Prelude.{⊤}
use Rattle.std.proofs.Common.{subst}
use Rattle.main_function.specs.Turning.{TurnLeaves}
use Rattle.report_api.specs.Desks.{desk_memo}
use Rattle.test_reports.proofs.PassesLemmas.{left_on}
use Rattle.test_reports.proofs.steps.Run.turn.Goals as goal

pub returns-in-Ok : goal.returns-in-Ok
returns-in-Ok g c =
    let chain = g.C.Chain in
    let made = c.args.self.now.made in
    let new = c.turn.follows.lender-at-none in
    let left = subst (λ answer. TurnLeaves chain.stands (λ old turn new. ⊤) chain.events chain.kept made.shared c.args.tick made.manager answer new) c.in-Ok.is
    c.turn.follows.holds-at-none in
    record {
      manager_is = left.0;
      classes_are = c.requires.classes_are;
      passes_are = left_on c.requires.passes_are (desk_memo new.desk) left.2.back_is;
    }
