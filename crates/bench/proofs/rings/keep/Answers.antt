use Rattle.std.proofs.Common.{subst, arith}
use Rattle.buffer_classes.proofs.GiveLemmas.{admitted_more}
use Rattle.report_api.specs.{AdmitsAct}
use Rattle.bench.proofs.rings.keep.Goals as goal

pub returns-in_ok-push-in-Report-default-default-default-Kept : goal.returns-in_ok-push-in-Report-default-default-default-Kept
returns-in_ok-push-in-Report-default-default-default-Kept c =
    let act = subst (AdmitsAct c.args.shared.now.terms) c.in-Report-default-default-default-Kept.is c.requires.act in
    admitted_more _ _ _ c.in_ok-push-in-Report-default-default-default-Kept.ensures.items c.requires.back (grind (arith, act.1, c.requires.shared))
