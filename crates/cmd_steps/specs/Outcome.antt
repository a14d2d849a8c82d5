-- What a journal gives when it is folded, as `fold` holds it.
use Rattle.std.specs.Prelude.{◌≡◌}
use Rattle.cmd_steps.specs.Names.{Folded, List, Parts, Recorded, Turn, count_of, length, messages_of, reverse, rows_of}
use Rattle.chain_plain.specs.Recorded.{CanFold}
use Rattle.chain_plain.specs.Telling.{ends_of}
use Rattle.ids_types.specs.declared.loss.Loss.{Loss}
use Rattle.journal.specs.Answers.{told}
use Rattle.cmd_steps.specs.declared.inputs.Inputs.{Inputs}
use Rattle.text_spec.specs.JournalReading.{Fits}

-- this is what the chain gives for these turns: its messages, where those of each turn end, and its event memory
pub record IsOutcome (config : Parts) (turns : List Turn) (folded : Folded) : Type 0 where
  pub sent_bytes : folded.sent.items ≡ messages_of config turns
  pub turn_ends : folded.ends.items ≡ ends_of config turns
  pub count : folded.messages ≡ count_of config turns
  pub rows : reverse folded.memory.rows ≡ rows_of config turns

-- the turns have a journal under the configuration, beside some losses, and the chain can take them
pub record IsFoldable (config : Parts) (turns : List Turn) : Type 0 where
  pub losses : List Loss
  pub fits : Fits config (told turns losses)
  pub can : CanFold (length config.events) turns

-- what was read of a recording
abbrev pub recorded_of : Inputs → Recorded
recorded_of inputs = record {
  config = inputs.config;
  told = told inputs.journal.history.turns inputs.journal.losses.items;
}
