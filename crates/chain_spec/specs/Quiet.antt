-- Quiet turns: those that may be left out of a history, for nothing that it tells is changed by them.
-- That a journal may leave them out is this project's own.
use Rattle.std.specs.Prelude.{◌≡◌, ℕ, ◌≤◌, List, [], None, IfSome}
use Rattle.ids_types.specs.Turns.{Turn}
use Rattle.ids_config.specs.Parts.{Parts, event_at}
use Rattle.chain_spec.specs.Accounts.{account_of}
use Rattle.chain_spec.specs.Chain.{qualified_of, messages}
use Rattle.chain_spec.specs.Moments.{moments}
use Rattle.chain_spec.specs.Storing.{memory}
use Rattle.chain_spec.specs.Way.{endings, given}

-- each interval of aggregation has at least one tick, as those of a valid configuration do
abbrev pub HaveIntervals : Parts → Type 0
HaveIntervals config = (event : ℕ) → IfSome (event_at config event).aggregate (λ setting. 1 ≤ setting.interval)

-- no window that is open after these turns is due at the tick
abbrev pub NoneDue : Parts → List Turn → ℕ → Type 0
NoneDue config before tick =
    (event : ℕ) → let ms = moments config before in given config ms (endings config ms) tick event ≡ None

-- a turn after these is quiet: it has no entries and no count to tell, and no window is due at its tick
pub record IsQuiet (config : Parts) (before : List Turn) (turn : Turn) : Type 0 where
  pub entries : turn.entries ≡ []
  pub lost_events : turn.head.lost_events ≡ 0
  pub lost_contexts : turn.head.lost_contexts ≡ 0
  pub limited : turn.head.limited ≡ 0
  pub windows : NoneDue config before turn.head.tick

-- two histories tell the same: the qualified events, the messages, the records of the event memory, what became of
-- each item, and the account of each event
pub record TellTheSame (config : Parts) (turns others : List Turn) : Type 0 where
  pub qualified : qualified_of config turns ≡ qualified_of config others
  pub messages : messages config turns ≡ messages config others
  pub memory : memory config turns ≡ memory config others
  pub endings : endings config (moments config turns) ≡ endings config (moments config others)
  pub accounts : (event : ℕ) → account_of config event (moments config turns) ≡ account_of config event (moments config others)
