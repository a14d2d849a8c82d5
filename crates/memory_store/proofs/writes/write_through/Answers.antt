use Rattle.memory_store.proofs.SlotLemmas.{arith, goes_on_with, sync_leaves, write_leaves}
use Rattle.memory_store.proofs.writes.write_through.Goals as goal

pub returns-clause-any_moment : goal.returns-clause-any_moment
returns-clause-any_moment g c settled =
    let first = write_leaves (g.D.Disk.shows c.args.disk.now).run _ c.args.at c.args.piece.now _ settled.synced
    (omega (arith, settled.size, c.requires)) (c.write.ensures.writes settled.tells) in
    goes_on_with _ _ _ _ first (sync_leaves _ _ _ c.sync.result first.now (c.sync.ensures.syncs (rw c.write.ensures.tells settled.tells)))
