use Rattle.ids_reporter.proofs.RuleLemmas.{adds}
use Rattle.ids_reporter.proofs.feeder.Feeder.put.Goals as goal

pub push_as-pushed-requires-clause-rule : goal.push_as-pushed-requires-clause-rule
push_as-pushed-requires-clause-rule g c = (adds _ _ _ _ c.requires.mine.knows, λ items views h at. tt)
