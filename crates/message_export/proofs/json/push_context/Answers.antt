use Rattle.message_export.proofs.json.push_context.Goals as goal

pub returns-in-None : goal.returns-in-None
returns-in-None c = rw c.in-None.is c.append.ensures
