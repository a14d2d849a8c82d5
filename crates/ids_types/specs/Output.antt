-- What one turn gives: the messages that it sent.
use Rattle.std.specs.Prelude.{ℕ, ◌+◌, ◌-◌, ◌≤◌, List, [], ◌++◌, length, vec_len, vec_capacity}
use Rattle.ids_types.specs.declared.turn_out.TurnOut.TheInside.{Inside}

-- the messages one after the other, how many they are, and how many more bytes there is room for
pub record Output : Type 0 where
  pub sent : List ℕ
  pub messages : ℕ
  pub sent_left : ℕ

-- how many bytes of messages an output can hold, counted as where it is empty
abbrev pub room_of : Output → ℕ
room_of out = out.sent_left + length out.sent

-- no messages yet, and room for so many bytes of them
abbrev pub empty_output : ℕ → Output
empty_output sent = record { sent = []; messages = 0; sent_left = sent }

-- without its messages, whose room is free again
abbrev pub without_messages : Output → Output
without_messages out = empty_output (room_of out)

-- with a piece of a message more
abbrev pub has_put : List ℕ → Output → Output
has_put piece out = record { sent = out.sent ++ piece; messages = out.messages; sent_left = out.sent_left - length piece }

-- its last message is whole
abbrev pub has_ended : Output → Output
has_ended out = record { sent = out.sent; messages = out.messages + 1; sent_left = out.sent_left }

-- with one message more
abbrev pub has_sent : List ℕ → Output → Output
has_sent message out = has_ended (has_put message out)

-- what the fields hold
abbrev pub output_of : Inside → Output
output_of out = record { sent = out.sent.items; messages = out.messages; sent_left = out.sent_left }

-- there is memory for the messages that there is room for
pub record IsSoundOutput (out : Inside) : Type 0 where
  pub sent_room : vec_len out.sent + out.sent_left ≤ vec_capacity out.sent
