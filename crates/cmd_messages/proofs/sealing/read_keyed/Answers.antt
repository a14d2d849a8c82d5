use Rattle.cmd_steps.proofs.Names.{file, goes_on, judged, left_reading, read_none, stops_early}
use Rattle.cmd_messages.proofs.sealing.read_keyed.Goals as goal

pub returns-in_err-text : goal.returns-in_err-text
returns-in_err-text g c =
    left_reading _ _ _ c.in_err-text.field-0.0 _ _ c.from_residual.ensures.1 (stops_early _ _ _ _ _ c.in_err-text.ensures.reads)

pub returns-in_err-key : goal.returns-in_err-key
returns-in_err-key g c =
    left_reading _ _ _ c.in_err-key.field-0.0 _ _ c.from_residual-in_err-key.ensures.1
    (goes_on (file 64 c.args.names.key.now) _ _ _ _ _ c.in_ok-text.ensures.reads _
    (stops_early _ _ _ _ _ (judged _ _ _ (rw c.deref.ensures.value at c.in_err-key.ensures))))

pub returns-in_err-bytes : goal.returns-in_err-bytes
returns-in_err-bytes g c =
    left_reading _ _ _ c.in_err-bytes.field-0.0 _ _ c.from_residual-in_err-bytes.ensures.1
    (goes_on (file 64 c.args.names.key.now) _ _ _ _ _ c.in_ok-text.ensures.reads _
    (goes_on _ _ _ _ _ _ (judged _ _ _ (rw c.deref.ensures.value at c.in_ok-key.ensures)) _
    (stops_early _ _ _ _ _ c.in_err-bytes.ensures.reads)))

pub returns : goal.returns
returns g c =
    goes_on (file 64 c.args.names.key.now) _ _ _ _ _ c.in_ok-text.ensures.reads _
    (goes_on _ _ _ _ _ _ (judged _ _ _ (rw c.deref.ensures.value at c.in_ok-key.ensures)) _
    (goes_on _ _ _ _ _ _ c.in_ok-bytes.ensures.reads _ (read_none _ _)))
