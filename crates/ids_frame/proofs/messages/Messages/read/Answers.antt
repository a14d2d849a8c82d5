use Rattle.ids_frame.proofs.Names.{sym, ◌∙◌}
use Rattle.ids_frame.proofs.MessagesLemmas.{left_behind, all_read}
use Rattle.ids_frame.proofs.messages.Messages.read.Goals as goal

pub loop-rest-smaller : goal.loop-rest-smaller
loop-rest-smaller c = (left_behind _ _ c.in-Ok.field-0-0 c.in-Ok.behind.now c.loop-rest.invariant c.in-Ok.ensures).1

pub returns : goal.returns
returns c = record { value = (all_read c.args.bytes.now _ c.loop-rest.invariant (sym c.is_empty.ensures ∙ c.loop-rest-test.false)).1 }
