use Rattle.trace_replay.proofs.Names.{named, shr_sync}
use Rattle.trace_replay.proofs.SyncLemmas.{stage_sync}
use Rattle.trace_replay.proofs.stage.serve_all.Goals as goal

pub for_each_mut-requires-sync-F : goal.for_each_mut-requires-sync-F
for_each_mut-requires-sync-F g c κs within = record {
  shared = λ x b o κ. (
    ((shr_sync (named 0) _ _ (stage_sync (record { mir = named 0; lft = _ }) g.row.G (record { shared = c.type_bounds.sync-G.shared }))).shared x.0 b o κ, tt),
    λ q. tt,
  );
}
