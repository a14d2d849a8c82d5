use Rattle.cmd_steps.proofs.Names.{arith, common_steps, length-filter, count_by-le-length}
use Rattle.idsm_run.proofs.replay_texts.replay_text.Goals as goal

-- the contexts that turns tell as lost are no more than their entries
pub contexts_lost-without-requires : goal.contexts_lost-without-requires
contexts_lost-without-requires c = grind (arith, common_steps, count_by-le-length, length-filter, c.requires)
