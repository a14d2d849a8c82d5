use Rattle.trace_replay.proofs.Names.{Quiet-if, named, of_param, shr_send}
use Rattle.trace_replay.proofs.SyncLemmas.{stage_sync}
use Rattle.trace_replay.proofs.rounds.play_beside.Goals as goal

pub join_mut-made-requires-send-F : goal.join_mut-made-requires-send-F
join_mut-made-requires-send-F g c κs within = record {
  owned = λ x vs vss. (
    tt,
    (
      (shr_send (named 0) _ g.row.R (record { shared = c.type_bounds.sync-R.shared })).owned x.0 vss.0,
      ((shr_send (named 0) _ _ (stage_sync (record { mir = named 0; lft = _ }) g.row.G (record { shared = c.type_bounds.sync-G.shared }))).owned x.1 vss.1.0, tt),
    ),
  );
  leaving = λ k. Quiet-if (k (of_param 1)) _ _ (λ x w. tt) (λ x w. tt);
}
