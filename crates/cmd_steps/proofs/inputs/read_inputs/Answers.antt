use Rattle.cmd_steps.proofs.Names.{config_in, file, goes_on, judged, left_reading, read_none, stops_early, told_in}
use Rattle.cmd_steps.proofs.inputs.read_inputs.Goals as goal

pub returns-in_err-config-clause-reads : goal.returns-in_err-config-clause-reads
returns-in_err-config-clause-reads g c =
    left_reading _ _ _ c.in_err-config.field-0.0 _ _ c.from_residual.ensures.1
    (stops_early (config_in c.args.names.config.now) (told_in c.args.names.journal.now) _ _ _ c.in_err-config.ensures)

pub returns-in_err-text-clause-reads : goal.returns-in_err-text-clause-reads
returns-in_err-text-clause-reads g c =
    left_reading _ _ _ c.in_err-text.field-0.0 _ _ c.from_residual-in_err-text.ensures.1
    (goes_on (config_in c.args.names.config.now) (told_in c.args.names.journal.now) _ _ _ _ c.in_ok-config.ensures _
    (stops_early _ _ _ _ _ c.in_err-text.ensures.reads))

pub returns-in_err-journal-clause-reads : goal.returns-in_err-journal-clause-reads
returns-in_err-journal-clause-reads g c =
    left_reading _ _ _ c.in_err-journal.field-0.0 _ _ c.from_residual-in_err-journal.ensures.1
    (goes_on (config_in c.args.names.config.now) (told_in c.args.names.journal.now) _ _ _ _ c.in_ok-config.ensures _
    (goes_on (file 16777216 c.args.names.journal.now) _ _ _ _ _ c.in_ok-text.ensures.reads _
    (stops_early _ _ _ _ _ (judged _ _ _ c.in_err-journal.ensures.judges))))

pub returns-clause-reads : goal.returns-clause-reads
returns-clause-reads g c =
    goes_on (config_in c.args.names.config.now) (told_in c.args.names.journal.now) _ _ _ _ c.in_ok-config.ensures _
    (goes_on (file 16777216 c.args.names.journal.now) _ _ _ _ _ c.in_ok-text.ensures.reads _
    (goes_on _ _ _ _ _ _ (judged _ _ _ c.in_ok-journal.ensures.judges) _ (read_none _ _)))
