use Rattle.std.proofs.Common.{rules}
use Rattle.ids_config.proofs.ValidLemmas.{parts_ok}
use Rattle.ids_config.proofs.config.Config.parts.Goals as goal

pub returns-clause-valid : goal.returns-clause-valid
returns-clause-valid c = parts_ok c.args.self.now (search rules)
