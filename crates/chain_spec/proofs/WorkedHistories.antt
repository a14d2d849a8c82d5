-- Histories with what the chain gives for them, worked out by hand from the filters' rules, so that a wrong
-- definition does not check. Bytes stand in hexadecimal, as a file of messages shows them.
use Rattle.chain_spec.proofs.Names.{◌≡◌, ℕ, ◌+◌, ◌*◌, ◌-◌, Bool, true, false, List, [], ◌∷◌, ◌++◌, map, take, reverse, Some, None, refl, Turn, Report, State, SetMode, Act, Mode, Off, Brief, Detailed, BriefBypassing, DetailedBypassing, Parts, Event, plain_event, messages, ends, handed, IsCausal, instance_18, nat_lt, codes, replicate, if◌then◌else◌, moments, Account, account_of, Fate, AtMode, AtBlock, AtNth, InWindow, AtThreshold, AtSend, AtRate, AtTraffic, Sent, endings}
use Prim.Native.String.{String}
use Rattle.ids_types.specs.declared.entry.Carried.TheVariants.{Absent, Kept, Missing}
use Rattle.chain_spec.specs.Memory.{Row}
use Rattle.chain_spec.specs.Storing.{memory}

-- ---- configurations

-- an event with id 42 by sensor 3
abbrev door : Event
door = plain_event 42 3

-- an event alone
abbrev only : Event → Parts
only event = instance_18 (event ∷ [])

-- that event alone
abbrev just_door : Parts
just_door = only door

-- ---- histories, here with the oldest turn first

-- a report of an event, seen so often
abbrev seen : ℕ → ℕ → Act (List ℕ)
seen event count = Report (record { 0 = event }) count None Absent

-- a report of event 0, seen once, with these bytes of context data
abbrev with_context : List ℕ → Act (List ℕ)
with_context bytes = Report (record { 0 = 0 }) 1 None (Kept 0 0 bytes)

-- the mode of event 0 becomes this one
abbrev becomes : Mode → Act (List ℕ)
becomes mode = SetMode (record { 0 = 0 }) mode

-- a turn at a tick with its three numbers and these acts
abbrev turn_with : ℕ → ℕ → ℕ → ℕ → List (Act (List ℕ)) → Turn
turn_with tick lost_events lost_contexts limited acts = record {
  head = record { tick = tick; lost_events = lost_events; lost_contexts = lost_contexts; limited = limited };
  entries = map (λ act. record { caller = 0; call = 0; act = act }) acts;
}

-- a turn at a tick with these acts
abbrev turn : ℕ → List (Act (List ℕ)) → Turn
turn tick acts = turn_with tick 0 0 0 acts

-- a turn at a tick with one report of event 0, seen so often
abbrev once : ℕ → ℕ → Turn
once tick count = turn tick (seen 0 count ∷ [])

-- one report with two bytes of context data
abbrev a_parcel : List Turn
a_parcel = turn 5 (with_context (161 ∷ 178 ∷ []) ∷ []) ∷ []

-- three reports in a turn, of which one is held back, and the turn after it, in the same window
abbrev three_at_once : List Turn
three_at_once = turn 0 (replicate 3 (seen 0 1)) ∷ turn_with 1 0 0 1 [] ∷ []

-- ---- what is expected

-- the value of a hexadecimal digit
abbrev digit : ℕ → ℕ
digit code = if nat_lt code 97 then code - 48 else code - 87

-- the bytes of hexadecimal digits
abbrev bytes_of : List ℕ → List ℕ
bytes_of (high ∷ low ∷ rest) = (digit high * 16 + digit low) ∷ bytes_of rest
bytes_of _ = []

-- the history gives the messages of these hexadecimal digits
abbrev Sends : Parts → List Turn → String → Type 0
Sends config turns digits = messages config (reverse turns) ≡ bytes_of (codes digits)

-- the record of event k with id k + 1 by sensor 0, seen so often and without a timestamp or context data
abbrev row : (event occurrences first last : ℕ) → Row
row event occurrences first last = record {
  key = record { event = record { 0 = event }; id = event + 1; sensor = 0 };
  occurrences = occurrences;
  first = first;
  last = last;
  stamp = None;
  context = [];
}

-- the event in this mode
abbrev door_in : Mode → Parts
door_in mode = only (record door { mode = mode })

-- the event aggregated for 10 ticks, with the last context data or the first
abbrev aggregated_door : Bool → Parts
aggregated_door last = only (record door { aggregate = Some (record { interval = 10; last = last }) })

-- the window has an item without context data and two with some
abbrev two_contexts : List Turn
two_contexts = turn 0 (seen 0 1 ∷ with_context (161 ∷ []) ∷ with_context (178 ∷ []) ∷ seen 0 1 ∷ []) ∷ turn 10 [] ∷ []

-- at most two messages in 1,000 ticks, and an internal event of id 9 for what is held back
abbrev two_in_1000 : Parts
two_in_1000 = record (instance_18 (door ∷ plain_event 9 0 ∷ [])) { rate = Some (record { interval = 1000; number = 2 }); limited = Some 1 }

-- the rate holds the third back, which a turn in the next window tells
abbrev third_held_back : List Turn
third_held_back = turn 100 (replicate 3 (seen 0 1)) ∷ turn_with 1000 0 0 1 [] ∷ []

-- at most 20 bytes in 1,000 ticks
abbrev twenty_bytes : Parts
twenty_bytes = record just_door { traffic = Some (record { interval = 1000; number = 20 }) }

-- three events that are stored and not sent, in a memory of so many records
abbrev three_stored : ℕ → Parts
three_stored k =
    let stored = λ (id : ℕ). record (plain_event id 0) { send = false; store = true } in
    record (instance_18 (stored 1 ∷ stored 2 ∷ stored 3 ∷ [])) { memory = k }

-- events 0, 1, 0, 2, 1, one in each turn
abbrev five_turns : List Turn
five_turns = once 1 1 ∷ turn 2 (seen 1 1 ∷ []) ∷ once 3 1 ∷ turn 4 (seen 2 1 ∷ []) ∷ turn 5 (seen 1 1 ∷ []) ∷ []

-- every second of event 0, blocked in state 1; event 1 in windows of 10 ticks, from 3 on in 100 ticks; event 2
-- stored and not sent; event 3 switched off. Three candidates and 20 bytes in 1,000 ticks, and one record
abbrev four_events : Parts
four_events = record (instance_18 (record door { nth = 2; block = 1 ∷ [] } ∷ record (plain_event 43 3) {
  aggregate = Some (record { interval = 10; last = false });
  threshold = Some (record { interval = 100; number = 3 });
} ∷ record (plain_event 44 3) { send = false; store = true } ∷ record (plain_event 45 3) { mode = Off } ∷ [])) {
  memory = 1;
  rate = Some (record { interval = 1000; number = 3 });
  traffic = Some (record { interval = 1000; number = 20 });
}

-- three turns, each message of which has 8 bytes
abbrev three_turns : List Turn
three_turns =
    turn 5 (seen 0 1 ∷ seen 0 1 ∷ State 1 ∷ seen 0 1 ∷ State 0 ∷ seen 1 2 ∷ seen 2 4 ∷ seen 3 1 ∷ [])
    ∷ turn 15 (seen 1 1 ∷ SetMode (record { 0 = 3 }) DetailedBypassing ∷ seen 3 1 ∷ [])
    ∷ turn 25 (seen 0 1 ∷ seen 0 1 ∷ seen 1 5 ∷ [])
    ∷ []

-- an event's account of them
abbrev account : ℕ → Account
account event = account_of four_events event (moments four_events (reverse three_turns))

-- of each of their items the event, where its way began, and its fate
abbrev told : List (ℕ × Fate × Fate)
told = reverse (map (λ one. (one.item.event, one.first, one.fate)) (endings four_events (moments four_events (reverse three_turns))))

-- ---- the histories

record AreWorkedOut : Type 0 where
  -- ---- messages
  a_report_with_context : Sends just_door a_parcel "110483002a00010002a1b2"
  a_report_with_a_timestamp : Sends just_door
      (turn 5 (Report (record { 0 = 0 }) 1 (Some (record { 0 = 9223372041149745664 })) Absent ∷ []) ∷ []) "120483002a0001008000000100000a00"
  -- 127 bytes are told in the short form, and 128 in the long one
  the_longest_short_context : take 9 (messages just_door (turn 5 (with_context (replicate 127 161) ∷ []) ∷ []))
      ≡ bytes_of (codes "110483002a0001007f")
  the_shortest_long_context : take 12 (messages just_door (turn 5 (with_context (replicate 128 161) ∷ []) ∷ []))
      ≡ bytes_of (codes "110483002a00010080000080")
  -- in profile 2 a message with context data has its version in byte 7
  version_of_context_data : Sends (record (only (record door { version = 5 })) { profile = 2 })
      (turn 5 (with_context (161 ∷ 178 ∷ []) ∷ seen 0 1 ∷ []) ∷ []) "210483002a00010502a1b2200483002a000100"
  each_turn_ends_behind_its_messages : ends just_door
      (reverse (once 1 1 ∷ turn 2 [] ∷ turn 3 (seen 0 1 ∷ seen 0 2 ∷ []) ∷ [])) ≡ 24 ∷ 8 ∷ 8 ∷ []
  -- ---- reporting mode and block state
  brief_removes_context : Sends (door_in Brief) a_parcel "100483002a000100"
  -- a mode counts for what comes after it, in later turns too
  a_mode_is_set : Sends just_door
      (turn 5 (seen 0 1 ∷ becomes Off ∷ seen 0 2 ∷ []) ∷ turn 6 (seen 0 3 ∷ becomes Detailed ∷ seen 0 4 ∷ []) ∷ [])
      "100483002a000100100483002a000400"
  bypassing_items_pass_a_blocking_state : Sends (only (record door { mode = DetailedBypassing; block = 1 ∷ [] }))
      (turn 5 (State 1 ∷ seen 0 2 ∷ []) ∷ []) "100483002a000200"
  brief_bypassing_removes_context : Sends (door_in BriefBypassing) a_parcel "100483002a000100"
  -- ---- forward every nth
  -- the rank goes on from turn to turn, and what bypasses the filters has none
  every_third_passes : Sends (only (record door { nth = 3 }))
      (turn 5 (seen 0 1 ∷ becomes DetailedBypassing ∷ seen 0 2 ∷ becomes Detailed ∷ seen 0 3 ∷ []) ∷ turn 6 (map (seen 0) (4 ∷ 5 ∷ 6 ∷ 7 ∷ 8 ∷ [])) ∷ [])
      "100483002a000200100483002a000400100483002a000700"
  -- ---- aggregation
  -- due at the opener's tick plus the interval, before that turn's items, which open the next window
  -- a turn that comes late closes one window, and the next begins with that turn's first item
  a_window_closes_late : Sends (aggregated_door false) (once 100 2 ∷ once 125 3 ∷ once 134 4 ∷ once 135 1 ∷ [])
      "100483002a000200100483002a000700"
  a_sum_saturates : Sends (aggregated_door false) (turn 0 (seen 0 65535 ∷ seen 0 1 ∷ []) ∷ turn 10 [] ∷ []) "100483002affff00"
  the_first_context_is_kept : Sends (aggregated_door false) two_contexts "110483002a00040001a1"
  the_last_context_is_kept : Sends (aggregated_door true) two_contexts "110483002a00040001b2"
  -- a mode does not touch an open window
  off_leaves_a_window_open : Sends (aggregated_door false) (turn 0 (seen 0 2 ∷ becomes Off ∷ seen 0 3 ∷ []) ∷ turn 10 [] ∷ [])
      "100483002a000200"
  -- windows close in the order of the events, and before the items of the turn
  windows_close_event_by_event : Sends
      (instance_18 (record door { aggregate = Some (record { interval = 10; last = false }) }
      ∷ record (plain_event 43 3) { aggregate = Some (record { interval = 5; last = false }) } ∷ plain_event 44 3 ∷ []))
      (turn 0 (seen 1 1 ∷ seen 0 1 ∷ []) ∷ turn 10 (seen 2 1 ∷ []) ∷ []) "100483002a000100100483002b000100100483002c000100"
  -- ---- threshold
  -- a window covers no tick from its opener's plus the interval on
  the_third_and_later_pass : Sends (only (record door { threshold = Some (record { interval = 100; number = 3 }) }))
      (once 0 2 ∷ turn 99 (seen 0 1 ∷ seen 0 1 ∷ []) ∷ once 100 2 ∷ []) "100483002a000100100483002a000100"
  -- a joined item is counted at the tick of the turn that closed its window
  a_joined_item_is_counted_as_one : Sends
      (only (record door { aggregate = Some (record { interval = 10; last = false }); threshold = Some (record { interval = 20; number = 5 }) }))
      (once 0 2 ∷ once 10 3 ∷ once 29 4 ∷ turn 39 [] ∷ []) "100483002a000300"
  -- ---- internal events
  -- they come before the items of the turn
  a_number_of_losses_saturates : Sends (record (instance_18 (door ∷ plain_event 7 0 ∷ [])) { lost_events = Some 1 })
      (turn_with 5 70000 0 0 (seen 0 1 ∷ []) ∷ []) "1004800007ffff00100483002a000100"
  lost_contexts_are_told_where_configured : Sends just_door
      (turn_with 5 0 1 0 (with_context (161 ∷ 162 ∷ 163 ∷ 164 ∷ [])
      ∷ Report (record { 0 = 0 }) 1 None (Missing (1 ∷ 1 ∷ [])) ∷ []) ∷ turn 5 [] ∷ [])
      "110483002a00010004a1a2a3a4100483002a000100"
  -- all three in their order, though configured in the other, and none for 0
  internal_events_in_order : messages
      (record (instance_18 (map (λ id. plain_event id 0) (1 ∷ 2 ∷ 3 ∷ []))) { lost_events = Some 2; lost_contexts = Some 1; limited = Some 0 })
      (turn_with 6 0 7 0 [] ∷ turn_with 5 4 5 6 [] ∷ [])
      ≡ bytes_of (codes "10048000030004001004800002000500100480000100060010048000020007" ++ codes "00")
  -- ---- limits
  -- a window begins with a multiple of the interval
  the_rate_is_kept : Sends two_in_1000 third_held_back "100483002a000100100483002a0001001004800009000100"
  what_is_handed_on_is_told : IsCausal two_in_1000 (reverse third_held_back)
  -- the internal event uses up the rate like others, and is itself not counted
  the_internal_event_is_held_back : Sends two_in_1000 three_at_once "100483002a000100100483002a000100"
  held_back_items_of_the_internal_event : handed two_in_1000 (reverse three_at_once) ≡ 0 ∷ 1 ∷ []
  what_traffic_holds_back_is_handed_on : handed twenty_bytes (reverse three_at_once) ≡ 0 ∷ 1 ∷ []
  -- what the traffic held back leaves its bytes to a shorter message: 8 bytes, 13 that do not fit, 8 again
  a_shorter_message_still_fits : Sends twenty_bytes (turn 0 (seen 0 1 ∷ with_context (1 ∷ 2 ∷ 3 ∷ 4 ∷ []) ∷ seen 0 2 ∷ []) ∷ [])
      "100483002a000100100483002a000200"
  -- ---- memory
  -- with two records event 1 was displaced at tick 4, and begins anew at tick 5
  a_displaced_record_begins_anew : memory (three_stored 2) (reverse five_turns) ≡ row 2 1 4 4 ∷ row 1 1 5 5 ∷ []
  -- with three it goes on
  a_record_goes_on : memory (three_stored 3) (reverse five_turns) ≡ row 0 2 1 3 ∷ row 2 1 4 4 ∷ row 1 2 2 5 ∷ []
  occurrences_saturate : memory (three_stored 1) (turn 1 (seen 0 65535 ∷ seen 0 1 ∷ []) ∷ []) ≡ row 0 65535 1 1 ∷ []
  -- the last item's timestamp and context data are kept, though the limits hold it back
  a_record_of_what_is_held_back : memory
      (record (only (record (plain_event 1 0) { store = true })) { memory = 1; rate = Some (record { interval = 10; number = 0 }) })
      (turn 1 (seen 0 1 ∷ Report (record { 0 = 0 }) 1 (Some (record { 0 = 7 })) (Kept 0 0 (161 ∷ [])) ∷ []) ∷ [])
      ≡ record (row 0 2 1 1) { stamp = Some (record { 0 = 7 }); context = 161 ∷ [] } ∷ []
  -- ---- fates
  -- the window of tick 5 gives 2 at tick 15, too few; that of tick 15 gives 1 at tick 25, which with these is 3, but
  -- two messages left 4 bytes; and then the rate has counted three candidates
  each_fate : told ≡ (0, AtMode, AtNth) ∷ (0, AtMode, Sent) ∷ (0, AtMode, AtBlock) ∷ (1, AtMode, InWindow) ∷ (2, AtMode, AtSend)
      ∷ (3, AtMode, AtMode) ∷ (1, AtThreshold, AtThreshold) ∷ (1, AtMode, InWindow) ∷ (3, AtSend, Sent) ∷ (1, AtThreshold, AtTraffic)
      ∷ (0, AtMode, AtNth) ∷ (0, AtMode, AtRate) ∷ (1, AtMode, InWindow) ∷ []
  an_account : account 1 ≡ record { came = 3; closed = 2; ended = 0 ∷ 0 ∷ 0 ∷ 3 ∷ 1 ∷ 0 ∷ 0 ∷ 1 ∷ 0 ∷ []; waiting = 1; stored = 0 }
  what_is_not_sent_is_stored : (account 2).stored ≡ 1

histories : AreWorkedOut
histories = assumption (refl)
