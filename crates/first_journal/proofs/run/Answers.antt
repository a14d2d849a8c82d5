use Rattle.config_json.specs.Configured.{configuration}
use Rattle.first_journal.proofs.WritingLemmas.{ends_over, made_of, none_made}
use Rattle.first_journal.proofs.run.Goals as goal

pub most_bytes-requires : goal.most_bytes-requires
most_bytes-requires g c = (made_of (configuration c.args.config.now) c.in-Ok.ensures.setup).1.manager_fits

pub write_all-requires-clause-new : goal.write_all-requires-clause-new
write_all-requires-clause-new g c κs within = none_made (made_of (configuration c.args.config.now) c.in-Ok.ensures.setup).1 c.in-Ok.ensures.text

pub write_all-requires-clause-callers : goal.write_all-requires-clause-callers
write_all-requires-clause-callers g c κs within = (made_of (configuration c.args.config.now) c.in-Ok.ensures.setup).1.are_all

pub write_all-requires-clause-fit : goal.write_all-requires-clause-fit
write_all-requires-clause-fit g c κs within = (made_of (configuration c.args.config.now) c.in-Ok.ensures.setup).1.callers_fit

pub returns : goal.returns
returns g c = ends_over (configuration c.args.config.now) c.in-Ok.setup c.in-Ok.ensures.setup c.write_all.result c.write_all.ensures
