use Rattle.ids_reporter.proofs.Names.{arith}
use Rattle.ids_reporter.proofs.SourceLemmas.{index_more}
use Rattle.ids_reporter.proofs.index.Index.add.Goals as goal

pub returns : goal.returns
returns c = λ messages is.
    index_more c.args.self.now _ messages c.args.message.now _ is (grind (arith, c.place.ensures, c.len.ensures, c.spelling_len.ensures)) c.in_ok-push.ensures.items
    (c.with-self.ensures messages c.args.message.now is.instance c.instance.ensures.value)
