use Rattle.std.proofs.lemmas.Result.{IfOk-weaker}
use Rattle.text_spec.proofs.JournalLaws.{told_is_journal}
use Rattle.journal.proofs.reading.read.Goals as goal

pub returns-clause-found : goal.returns-clause-found
returns-clause-found c =
    IfOk-weaker c.read_journal.result _ _ (λ j. told_is_journal c.args.config.now c.parts-parts.ensures.valid.count.most c.args.text.now _) c.read_journal.ensures.told
