use Rattle.trace_replay.proofs.stage.Stage.make.Goals as goal

pub returns-clause-set : goal.returns-clause-set
returns-clause-set g c = assumption (c.requires, c.rounds-rounds.ensures, c.in_ok-places_for.ensures, c.places_for.ensures)
