-- What contracts see of a `PlainChain`, what holds of its fields, and for which turns it stands: those of its history.
use Rattle.std.specs.Prelude.{◌≡◌, ℕ, ◌≤◌, ◌^◌, List, [], length, reverse, vec_len}
use Rattle.std.specs.List.{All}
use Rattle.ids_types.specs.Turns.{Turn, Turns}
use Rattle.ids_config.specs.Parts.{Parts}
use Rattle.event_memory.specs.Held.{Held}
use Rattle.filter_chain.specs.History.{handed_of, rows_of}
use Rattle.event_chain.specs.Chained.{chain_events, chain_kept}
use Rattle.event_chain.specs.Standing.{Stands as ChainStands}
use Rattle.chain_plain.specs.{AreInOrder, CanTake, IsReady}
use Rattle.test_chains.specs.declared.fresh.Fresh.{Fresh}
use Rattle.test_chains.specs.declared.plain_chain.PlainChain.TheInside.{Inside}

-- the configuration, all turns with the room for more, the number that the last turn hands on, and the event memory
-- after it
pub record Remembered : Type 0 where
  pub config : Parts
  pub history : Turns
  pub limited : ℕ
  pub memory : Held

-- what the fields hold
abbrev pub remembered : {B : Type 0} → Inside B → Remembered
remembered c = record { config = c.config.now; history = c.history; limited = c.limited; memory = c.memory }

-- the chain of this configuration took no turn and keeps no parcel, and the desk has room for each of its turns
pub record IsFresh (config : Parts) (fresh : Fresh) : Type 0 where
  pub stands : ChainStands (λ p. p.0.now) config [] fresh.chain
  pub events : chain_events fresh.chain ≡ length config.events
  pub kept : chain_kept fresh.chain ≡ []
  pub ready : IsReady (length config.events) fresh.desk

-- each turn of the history can be taken again, and there is a fresh chain for each turn that there is room for
pub record IsSound {B : Type 0} (c : Inside B) : Type 0 where
  pub turns_fit : All (CanTake (length c.config.now.events)) c.history.turns
  pub fresh : All (IsFresh c.config.now) c.fresh.items
  pub enough : c.history.room.turns ≤ vec_len c.fresh
  pub few : c.limited ≤ 2 ^ 45

-- the chain is of this configuration, its history is these turns, the first of them first, and it tells what the
-- definitions give for them
pub record Stands (config : Parts) (turns : List Turn) (chain : Remembered) : Type 0 where
  pub same : chain.config ≡ config
  pub all : chain.history.turns ≡ turns
  pub order : AreInOrder (reverse turns)
  pub handed : chain.limited ≡ handed_of config turns
  pub rows : reverse chain.memory.rows ≡ rows_of config turns
