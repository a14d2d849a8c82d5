use Rattle.first_report.proofs.ReportLemmas.{one_report}
use Rattle.first_report.proofs.report.Goals as goal

pub returns : goal.returns
returns c = one_report c.args.caller.now c.report_event.new.self c.report_event.result c.requires c.report_event.ensures.fit c.report_event.ensures.does

pub report_event-requires : goal.report_event-requires
report_event-requires c = record { fit = c.requires.fits }
