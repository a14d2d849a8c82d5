use Rattle.std.proofs.Common.{rules, subst}
use Rattle.std.proofs.lemmas.List.{with_items_is}
use Rattle.std.proofs.lemmas.Result.{err_from_is_err_and}
use Rattle.idsm_api.proofs.ClosingLemmas.{called_on}
use Rattle.idsm_api.specs.{CountsTell}
use Rattle.first_report.proofs.ReportLemmas.{are_ready, count_two, made_of, may_turn, no_fault}
use Rattle.first_report.specs.Reporting.{HaveReported}
use Rattle.first_report.proofs.run.Goals as goal

pub returns-in_err-setup-clause-fault : goal.returns-in_err-setup-clause-fault
returns-in_err-setup-clause-fault g c =
    let p = err_from_is_err_and c.from_residual.result c.from_residual.ensures.1 in
    rw (p.1, p.2) (no_fault c.in_err-setup.field-0.0 c.in_err-setup.ensures.setup)

pub report_all-requires-after_bounds : goal.report_all-requires-after_bounds
report_all-requires-after_bounds g c κs within = rw c.deref_mut.ensures.value (are_ready (made_of c.in_ok-setup.ensures.setup))

pub unreachable-requires : goal.unreachable-requires
unreachable-requires g c = c.in_default.not-Done (c.turn-turn.ensures.made (may_turn (made_of c.in_ok-setup.ensures.setup) (search rules)))

pub close-closed-requires-clause-callers : goal.close-closed-requires-clause-callers
close-closed-requires-clause-callers g c =
    let news = c.report_all.new.callers in
    let have = subst (λ items. HaveReported items news) c.deref_mut.ensures.value c.report_all.ensures in
    let many = have.same.as_many in
    rw (with_items_is c.in_ok-setup.setup.callers news (search (rules, many)))
    (c.turn-turn.ensures.callers news (called_on (made_of c.in_ok-setup.ensures.setup).are_all have.same))

pub returns-in_err-extend_from_slice-2-clause-fault : goal.returns-in_err-extend_from_slice-2-clause-fault
returns-in_err-extend_from_slice-2-clause-fault g c =
    let p = err_from_is_err_and c.from_residual-in_err-extend_from_slice-2.result c.from_residual-in_err-extend_from_slice-2.ensures.1 in
    rw p.1 p.2

pub returns-clause-counted : goal.returns-clause-counted
returns-clause-counted g c =
    let news = c.report_all.new.callers in
    let have = subst (λ items. HaveReported items news) c.deref_mut.ensures.value c.report_all.ensures in
    let many = have.same.as_many in
    let counts = rw (with_items_is c.in_ok-setup.setup.callers news (search (rules, many))) at c.close-closed.ensures.counts in
    count_two (made_of c.in_ok-setup.ensures.setup) have
    (subst (λ answer. CountsTell answer news c.close-closed.result.totals) c.in-Done-answer.is counts)
