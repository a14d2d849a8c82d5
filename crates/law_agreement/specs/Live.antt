-- Turns whose lines make a journal, and files that hold what a manager wrote of them.
-- Source: docs/FORMATS.md.
use Rattle.std.specs.Prelude.{◌≡◌, ◌≤◌, ℕ}
use Rattle.cmd_steps.specs.Names.{IsTrue, List, Ok, Parts, Shelved, Some, Turn, length, messages_of, over, reverse}
use Rattle.chain_spec.specs.Chain.{IsCausal}
use Rattle.cmd_spec.specs.Judge.{config_in}
use Rattle.cmd_words.specs.Command.{CheckFiles}
use Rattle.journal.specs.Fitting.{AreInRange}
use Rattle.journal.specs.Printing.{turns_text}
use Rattle.history_spec.specs.{RiseFrom, calls_of}
use Rattle.ids_types.specs.Turns.{entries_of}

-- the turns are in range, under a configuration of at most 256 events; each tells of held-back events what is due; and the
-- calls of each caller rise
pub record MakeAJournal (config : Parts) (turns : List Turn) : Type 0 where
  pub few_events : length config.events ≤ 256
  pub in_range : AreInRange config turns
  pub causal : IsCausal config (reverse turns)
  pub calls_rise : (caller : ℕ) → RiseFrom 0 (calls_of caller (entries_of turns))

-- the files hold this configuration, the texts of these turns one after another, no longer than may be read, and their messages
pub record HoldTurns (names : CheckFiles) (config : Parts) (turns : List Turn) (found : Shelved) : Type 0 where
  pub tells : IsTrue found.tells
  pub config_is : over (config_in names.from.config) found.files ≡ Ok config
  pub journal_is : found.files names.from.journal ≡ Some (turns_text turns)
  pub messages_are : found.files names.messages ≡ Some (messages_of config turns)
  pub short : length (turns_text turns) ≤ 16777216
