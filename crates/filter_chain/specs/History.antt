-- What a history tells, said over its turns with the first of them first.
use Rattle.std.specs.Prelude.{◌≡◌, ℕ, ◌+◌, List, [], ◌∷◌, ◌++◌, reverse}
use Rattle.ids_types.specs.MemoryRow.{Row}
use Rattle.ids_types.specs.Output.{Output}
use Rattle.ids_types.specs.Turns.{Turn}
use Rattle.ids_config.specs.Parts.{Parts}
use Rattle.chain_spec.specs.{messages, message_count, handed_on, memory}

-- the tick of the newest turn, 0 where there is none
abbrev pub newest_tick : List Turn → ℕ
newest_tick [] = 0
newest_tick (turn ∷ before) = turn.head.tick

-- the tick of the last turn, 0 before the first
abbrev pub last_tick : List Turn → ℕ
last_tick turns = newest_tick (reverse turns)

-- the bytes of all messages that are sent
abbrev pub messages_of : Parts → List Turn → List ℕ
messages_of config turns = messages config (reverse turns)

-- how many messages are sent
abbrev pub count_of : Parts → List Turn → ℕ
count_of config turns = message_count config (reverse turns)

-- the number that the last turn hands on
abbrev pub handed_of : Parts → List Turn → ℕ
handed_of config turns = handed_on config (reverse turns)

-- the records of the event memory, the one stored last at the end
abbrev pub rows_of : Parts → List Turn → List Row
rows_of config turns = memory config (reverse turns)

-- the output has what a turn sends after these turns: with it the messages are those before and its own
pub record Sends (config : Parts) (turns : List Turn) (turn : Turn) (out : Output) : Type 0 where
  pub bytes : messages_of config (turns ++ turn ∷ []) ≡ messages_of config turns ++ out.sent
  pub number : count_of config (turns ++ turn ∷ []) ≡ count_of config turns + out.messages
