-- The main theorem of a replay: whatever way its callers' calls and its turns come between each other, it gives one
-- history.
use Rattle.cmd_spec.specs.Names.{List, Loss, Parts, Round, Turn, reverse}
use Rattle.chain_spec.specs.Chain.{IsCausal}
use Rattle.history_spec.specs.Merge.{IsMerge}
use Rattle.text_spec.specs.JournalReading.{Fits}

-- the turns and the losses are one history of these rounds
pub record IsOneHistory (config : Parts) (rounds : List Round) (turns : List Turn) (losses : List Loss) : Type 0 where
  -- each call of the callers' lines stands in it once: accepted, as an entry in its caller's order, or lost, where no
  -- event buffer was free; and the turns tell how many reports and contexts were lost
  pub merged : IsMerge config rounds turns losses
  -- it has a journal under the configuration
  pub fits : Fits config (record { turns = turns; losses = losses })
  -- each turn tells how many events the limits held back in the turn before it
  pub causal : IsCausal config (reverse turns)
