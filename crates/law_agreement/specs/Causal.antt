-- The turn for which `fold` refuses a journal: the first that tells another number than the chain hands on to it.
-- Source: docs/FORMATS.md.
use Rattle.std.specs.Prelude.{◌++◌, ◌+◌, ◌∷◌, ◌≡◌, ◌≢◌}
use Rattle.cmd_steps.specs.Names.{List, Parts, Turn, flat_map, length, reverse, ℕ}
use Rattle.chain_spec.specs.Chain.{IsCausal, handed_on}
use Rattle.text_spec.specs.JournalText.{turn_told}

-- the turn on this line of their journal does not begin with the number that the one before it handed on, and each
-- before it does
pub record IsFirstUncausal (config : Parts) (turns : List Turn) (line : ℕ) : Type 0 where
  pub before : List Turn
  pub turn : Turn
  pub after : List Turn
  pub are : turns ≡ before ++ turn ∷ after
  pub causal : IsCausal config (reverse before)
  pub other : turn.head.limited ≢ handed_on config (reverse before)
  pub place : line ≡ length (flat_map turn_told before) + 1
