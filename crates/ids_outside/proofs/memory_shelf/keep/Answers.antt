use Rattle.ids_outside.proofs.MemoryFilesLemmas.{changes_from_updates}
use Rattle.ids_outside.proofs.memory_shelf.keep.Goals as goal

-- the map was updated at the name
pub returns-clause-ok : goal.returns-clause-ok
returns-clause-ok c = changes_from_updates _ c.args.files.now c.insert.new.self c.args.bytes c.in_ok-insert.ensures.updates
