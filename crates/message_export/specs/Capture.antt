-- Messages as a capture, a packet for each.
-- Source: the classic capture format that pcap readers take, with the high byte first and nanoseconds
-- (docs/FORMATS.md).
use Rattle.std.specs.Prelude.{◌++◌, ◌∷◌, if◌then◌else◌, ◌/◌, ◌%◌, ◌^◌}
use Rattle.text_spec.specs.Below.{ℕ, List, [], length, min, nat_lt, take, Option, Some, None, to_be_bytes}
use Rattle.std.specs.Int.{w16, w32}
use Rattle.ids_types.specs.declared.names.Stamp.{Stamp}
use Rattle.ids_frame.specs.{MessageParts, spelling}
use Rattle.message_export.specs.declared.capture.Time.{Time}

-- The parts of a timestamp: from the top a bit of source, a reserved bit, 30 bits of nanoseconds and 32
-- bits of seconds.
-- Source: the timestamp of the AUTOSAR PRS Intrusion Detection System.

-- the seconds
abbrev pub seconds_of : Stamp → ℕ
seconds_of stamp = stamp.0 % 2 ^ 32

-- the nanoseconds, of which 30 bits can say more than a second
abbrev pub nanoseconds_of : Stamp → ℕ
nanoseconds_of stamp = stamp.0 / 2 ^ 32 % 2 ^ 30

-- how many bytes a packet has at most: readers refuse more
abbrev pub most_bytes : ℕ
most_bytes = 262144

-- the link type of messages: the first of those that are left to users
abbrev pub link_type : ℕ
link_type = 147

-- the front of a capture: the mark of one in nanoseconds, the version 2.4, two numbers that are not
-- used, the most bytes of a packet and the link type
abbrev pub capture_front : List ℕ
capture_front =
    to_be_bytes w32 2712812621 ++ to_be_bytes w16 2 ++ to_be_bytes w16 4 ++ to_be_bytes w32 0 ++ to_be_bytes w32 0
    ++ to_be_bytes w32 most_bytes ++ to_be_bytes w32 link_type

-- the time of the first packet, where its message tells none
abbrev pub no_time : Time
no_time = record { seconds = 0; nanoseconds = 0 }

-- the time of a packet: that of its message's timestamp, where that tells less than a second of
-- nanoseconds, and else that of the packet before
abbrev pub time_after : Time → Option Stamp → Time
time_after before None = before
time_after before (Some stamp) =
    if nat_lt (nanoseconds_of stamp) 1000000000
    then record { seconds = seconds_of stamp; nanoseconds = nanoseconds_of stamp }
    else before

-- what a packet keeps of a message's bytes
abbrev pub kept : List ℕ → List ℕ
kept bytes = take most_bytes bytes

-- a packet: its time, how many bytes it keeps, how many there were, and those that it keeps
abbrev pub packet : Time → List ℕ → List ℕ
packet time bytes =
    to_be_bytes w32 time.seconds ++ to_be_bytes w32 time.nanoseconds ++ to_be_bytes w32 (min (length bytes) most_bytes)
    ++ to_be_bytes w32 (length bytes) ++ kept bytes

-- the packets of messages, after one of this time
abbrev pub packets : Time → List MessageParts → List ℕ
packets before [] = []
packets before (m ∷ messages) =
    let time = time_after before m.stamp in
    packet time (spelling m) ++ packets time messages

-- the capture of messages
abbrev pub exported_pcap : List MessageParts → List ℕ
exported_pcap messages = capture_front ++ packets no_time messages

-- what a packet tells of a message: how many bytes it has, and the first of them
pub record Told : Type 0 where
  pub len : ℕ
  pub bytes : List ℕ

abbrev pub told_of : MessageParts → Told
told_of m = record { len = length (spelling m); bytes = kept (spelling m) }
