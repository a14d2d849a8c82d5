-- What the whole chain gives for a history: which messages are sent, and what is held back. Turns have the
-- newest first, and so have all lists but the bytes of messages.
-- Public standard: AUTOSAR SWS Intrusion Detection System Manager, rate and traffic limitation after the filter
-- chain. That an internal event counts what both limits held back is this project's own.
use Rattle.std.specs.Prelude.{◌≡◌, ℕ, ◌-◌, List, [], ◌∷◌, length, ⊤}
use Rattle.ids_types.specs.Turns.{Turn}
use Rattle.ids_config.specs.Parts.{Parts}
use Rattle.chain_spec.specs.Items.{Item}
use Rattle.chain_spec.specs.Lists.{qualified, sent, held}
use Rattle.chain_spec.specs.Messages.{spelled}
use Rattle.chain_spec.specs.Moments.{moments}

-- the qualified events of a history
abbrev pub qualified_of : Parts → List Turn → List Item
qualified_of config turns = qualified config (moments config turns)

-- the bytes of all messages that are sent, the oldest message first
abbrev pub messages : Parts → List Turn → List ℕ
messages config turns = spelled config (sent config (moments config turns))

-- how many messages are sent
abbrev pub message_count : Parts → List Turn → ℕ
message_count config turns = length (sent config (moments config turns))

-- how many bytes are sent by the end of each turn
abbrev pub ends : Parts → List Turn → List ℕ
ends config [] = []
ends config (turn ∷ before) = length (messages config (turn ∷ before)) ∷ ends config before

-- how many candidates are held back and count
abbrev pub held_count : Parts → List Turn → ℕ
held_count config turns = length (held config (moments config turns))

-- the number that the newest turn hands on to the next: what was held back in it
abbrev pub handed_on : Parts → List Turn → ℕ
handed_on config [] = 0
handed_on config (turn ∷ before) = held_count config (turn ∷ before) - held_count config before

-- the numbers that the turns hand on
abbrev pub handed : Parts → List Turn → List ℕ
handed config [] = []
handed config (turn ∷ before) = handed_on config (turn ∷ before) ∷ handed config before

-- each turn begins with the number that the one before it handed on, and the first with 0
abbrev pub IsCausal : Parts → List Turn → Type 0
IsCausal config [] = ⊤
IsCausal config (turn ∷ before) = (turn.head.limited ≡ handed_on config before) × IsCausal config before
