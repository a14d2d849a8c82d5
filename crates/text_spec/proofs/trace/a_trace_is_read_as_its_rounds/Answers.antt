use Rattle.text_spec.proofs.TraceLaws.{trace_again, trace_fits}
use Rattle.text_spec.proofs.trace.a_trace_is_read_as_its_rounds.Goals as goal

pub returns : goal.returns
returns c = record { read = trace_again; fits = trace_fits }
