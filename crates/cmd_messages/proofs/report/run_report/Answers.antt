use Rattle.cmd_steps.proofs.Names.{ap, report_of}
use Rattle.cmd_steps.proofs.AnsweredLemmas.{run_ran, runs_others}
use Rattle.cmd_messages.proofs.report.run_report.Goals as goal

pub returns-in-Ok-Some-Report-clause-ran : goal.returns-in-Ok-Some-Report-clause-ran
returns-in-Ok-Some-Report-clause-ran g c =
    let arm = c.in-Ok-Some-Report in
    rw (← ap report_of (rw (arm.field-0-is, arm.field-0-0-is) at arm.ensures.asked))
    (run_ran _ _ _ _ _ _ _ c.report_files.result _ c.report_files.ensures.reported c.report_files.ensures.ends c.tell_finished.ensures)

pub returns-in-Ok-Some-Report-clause-others : goal.returns-in-Ok-Some-Report-clause-others
returns-in-Ok-Some-Report-clause-others g c = runs_others _ _ _ _ _ _ _ _ _ (returns-in-Ok-Some-Report-clause-ran g c)
