use Rattle.cmd_steps.proofs.Names.{Err, Instance, Ok, Refused, arith, file, goes_on, judged, left_reading, stops_early}
use Rattle.cmd_messages.proofs.reporting.read_source.Goals as goal

pub returns-in_err-bytes-clause-reads : goal.returns-in_err-bytes-clause-reads
returns-in_err-bytes-clause-reads g c =
    left_reading _ _ _ c.in_err-bytes.field-0.0 _ _ c.from_residual.ensures.1 (stops_early _ _ _ _ _ c.in_err-bytes.ensures.reads)

pub returns-in_err-source-clause-reads : goal.returns-in_err-source-clause-reads
returns-in_err-source-clause-reads g c =
    left_reading _ _ _ c.in_err-source.field-0.0 _ _ c.from_residual-in_err-source.ensures.1
    (goes_on (file 8388608 c.args.name.now) _ _ _ _ _ c.in_ok-bytes.ensures.reads _
    (stops_early _ _ _ _ _ (judged _ _ _ c.in_err-source.ensures.judges)))

pub returns-then-clashes-clause-reads : goal.returns-then-clashes-clause-reads
returns-then-clashes-clause-reads g c =
    goes_on (file 8388608 c.args.name.now) _ _ _ _ _ c.in_ok-bytes.ensures.reads _
    (judged _ (Err (Refused (Instance c.args.name.now))) _
    (grind (arith, c.in_ok-source.ensures.judges, c.instance.ensures, c.clashes.ensures, c.if-clashes.true)))

pub returns-clause-reads : goal.returns-clause-reads
returns-clause-reads g c =
    goes_on (file 8388608 c.args.name.now) _ _ _ _ _ c.in_ok-bytes.ensures.reads _
    (judged _ (Ok c.in_ok-source.source) _
    (grind (arith, c.in_ok-source.ensures.judges, c.instance.ensures, c.clashes.ensures, c.if-clashes.false)))
