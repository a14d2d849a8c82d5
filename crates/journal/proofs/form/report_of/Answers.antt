use Rattle.journal.proofs.Names.{arith, last_context, report_form}
use Rattle.journal.proofs.form.report_of.Goals as goal

pub returns-in_err-context : goal.returns-in_err-context
returns-in_err-context c =
    let make = report_form.makes c.in_ok-caller.caller c.in_ok-call.call c.in_ok-event.event c.in_ok-count.count c.in_ok-stamp.stamp in
    let last = last_context make c.in_ok-text.field-0.now in
    grind (arith, last)

pub returns : goal.returns
returns c =
    let make = report_form.makes c.in_ok-caller.caller c.in_ok-call.call c.in_ok-event.event c.in_ok-count.count c.in_ok-stamp.stamp in
    let last = last_context make c.in_ok-text.field-0.now in
    grind (arith, last)
