use Rattle.cmd_steps.proofs.Names.{◌≡◌, take, lost_contexts}
use Rattle.idsm_run.proofs.replay_texts.contexts_lost.Given as goal

-- what the turns so far tell
abbrev pub invariant-loop-turn : goal.invariant-loop-turn
invariant-loop-turn l = l.lost ≡ lost_contexts (take l.turn l.history.turns)
