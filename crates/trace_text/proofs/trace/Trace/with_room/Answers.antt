use Rattle.trace_text.proofs.Names.{rules}
use Rattle.trace_text.proofs.LaidLemmas.{none_sound}
use Rattle.trace_text.proofs.trace.Trace.with_room.Goals as goal

pub invariant_of-result : goal.invariant_of-result
invariant_of-result c = none_sound _ c.args.config.now.callers c.parts.ensures.valid.callers.most (search rules) (search rules) (search rules)
