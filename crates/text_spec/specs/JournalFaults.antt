-- The faults of a journal's line, 2 to 7, after what the lines before it tell. Fault 1 is a line that
-- has no form.
-- Source: the text formats of this project (docs/FORMATS.md).
use Rattle.std.specs.Prelude.{◌+◌, ◌*◌, ◌^◌, ◌==◌, ◌&&◌, ◌∷◌, ◌++◌}
use Rattle.text_spec.specs.Below.{ℕ, not, nat_lt, nat_le, Bool, true, List, [], length, replicate, slice_index, slice_set, Result, ⊤, list_all, list_any, Parts, is_sensor, ◌>>◌, asks, Turn, begun, with_entry, entries_of, Carried, Absent, Kept, Missing, Act, Report, State, SetMode, Entry, TurnHead, Loss}
use Rattle.text_spec.specs.JournalText.{Told, Line, begins, enters, loses}

-- ---- fault 3: ranges

-- the number of a claim, of something given back, or of a loss of contexts
abbrev pub is_claim : ℕ → Bool
is_claim n = nat_le n (2 ^ 46)

-- how many reports were lost or held back
abbrev pub is_count_lost : ℕ → Bool
is_count_lost n = nat_le n (2 ^ 45)

-- a caller, and the number of its call
abbrev pub is_call : ℕ → ℕ → Bool
is_call caller call = nat_le caller 31 && nat_lt call (2 ^ 40)

-- the numbers of a context: a kept one has 1 to 1,024 bytes, of one of four classes
abbrev pub is_context : Carried (List ℕ) → Bool
is_context Absent = true
is_context (Kept class claim bytes) = nat_le class 3 && is_claim claim && nat_le 1 (length bytes) && nat_le (length bytes) 1024
is_context (Missing numbers) = list_all is_claim numbers

-- the numbers of an act, but for the event
abbrev pub is_act : Act (List ℕ) → Bool
is_act (Report event count stamp context) = nat_le 1 count && nat_le count 65535 && is_context context
is_act (State state) = nat_le state 255
is_act (SetMode event mode) = true

-- the tick of a turn
abbrev pub is_tick : ℕ → Bool
is_tick n = nat_le n (2 ^ 62)

-- the numbers of a turn's head
abbrev pub is_head : TurnHead → Bool
is_head head = is_tick head.tick && is_count_lost head.lost_events && is_count_lost head.lost_contexts && is_count_lost head.limited

-- ---- fault 4: events

-- a report is of an event that sensors report, and the mode that is set is of an event that is there
abbrev pub has_event : Parts → Act (List ℕ) → Bool
has_event config (Report event count stamp context) = is_sensor config event.0
has_event config (State state) = true
has_event config (SetMode event mode) = nat_lt event.0 (length config.events)

-- the numbers of a line are in their ranges, and its event may stand there
abbrev pub is_in_ranges : Parts → Line → Bool
is_in_ranges config (begins head) = is_head head
is_in_ranges config (enters entry) = is_call entry.caller entry.call && is_act entry.act && has_event config entry.act
is_in_ranges config (loses loss) = is_call loss.caller loss.call && is_claim loss.given

-- ---- faults 2, 5, 6 and 7: what the lines before ask of a line

-- what the lines so far tell, and what the next one has to observe
pub record Past : Type 0 where
  pub told : Told
  -- the tick of the last turn, and how many entries it has
  pub tick : ℕ
  pub entries : ℕ
  -- each caller's least call that may follow
  pub calls : List ℕ
  -- the least pair of a loss that may follow
  pub pair : ℕ

-- a pair of caller and call as one number, in the order by caller and then by call
abbrev pub pair_of : ℕ → ℕ → ℕ
pair_of caller call = caller * 2 ^ 40 + call

-- whether an entry, or one of those of turns, is this pair's
abbrev pub is_pair : ℕ → Entry (List ℕ) → Bool
is_pair pair entry = pair_of entry.caller entry.call == pair

abbrev pub has_pair : List Turn → ℕ → Bool
has_pair turns pair = list_any (is_pair pair) (entries_of turns)

-- no line was read
abbrev pub start : Past
start = record { told = record { turns = []; losses = [] }; tick = 0; entries = 0; calls = replicate 32 0; pair = 0 }

-- the lines so far with one more
abbrev pub next : Past → Line → Past
next past (begins head) = record past { told = record past.told { turns = past.told.turns ++ begun head ∷ [] }; tick = head.tick; entries = 0 }
next past (enters entry) = record past {
  told = record past.told { turns = with_entry past.told.turns entry };
  entries = past.entries + 1;
  calls = slice_set past.calls entry.caller (entry.call + 1);
}
next past (loses loss) = record past { told = record past.told { losses = past.told.losses ++ loss ∷ [] }; pair = pair_of loss.caller loss.call + 1 }

-- ---- the first fault of a line

-- the first fault of a line that begins a turn
abbrev pub head_fault : Past → TurnHead → Result ⊤ ℕ
head_fault past head =
    asks 2 (length past.told.losses == 0)
    >> asks 3 (is_head head)
    >> asks 5 (nat_le past.tick head.tick)

-- the first fault of a line that tells an entry
abbrev pub entry_fault : Parts → Past → Entry (List ℕ) → Result ⊤ ℕ
entry_fault config past entry =
    asks 2 (nat_lt 0 (length past.told.turns) && length past.told.losses == 0)
    >> asks 3 (is_call entry.caller entry.call && is_act entry.act)
    >> asks 4 (has_event config entry.act)
    >> asks 6 (nat_le (slice_index past.calls entry.caller) entry.call)
    >> asks 7 (nat_lt past.entries 1024)

-- the first fault of a line that tells a loss
abbrev pub loss_fault : Past → Loss → Result ⊤ ℕ
loss_fault past loss =
    asks 3 (is_call loss.caller loss.call && is_claim loss.given)
    >> asks 6 (nat_le past.pair (pair_of loss.caller loss.call) && not (has_pair past.told.turns (pair_of loss.caller loss.call)))

-- the first fault of a line that has a form
abbrev pub fault_of : Parts → Past → Line → Result ⊤ ℕ
fault_of config past (begins head) = head_fault past head
fault_of config past (enters entry) = entry_fault config past entry
fault_of config past (loses loss) = loss_fault past loss
