use Rattle.ids_reporter.proofs.Names.{◌<◌, length, sym, subst, arith, messages_of, common_steps}
use Rattle.ids_reporter.proofs.SourceLemmas.{message_in}
use Rattle.ids_reporter.proofs.source.Source.message.Goals as goal

pub part-requires : goal.part-requires
part-requires c =
    let inside = c.self.inside in
    let lt = subst (λ messages. c.args.i < length messages) (sym c.self.view_is) c.requires in
    let is = message_in inside.bytes.items inside.index (messages_of inside.bytes.items) c.args.i c.self.invariant lt in
    grind (arith, common_steps)
