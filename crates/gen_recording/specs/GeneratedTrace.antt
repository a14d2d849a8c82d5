-- The generated trace: in each round every caller reports four times, each report by four draws: of the event, of the
-- count, of whether there is a timestamp, and of the size of the context data. It is drawn line by line.
use Rattle.std.specs.Prelude.{ℕ, zero, suc, ◌+◌, ◌*◌, ◌/◌, ◌%◌, ◌^◌, ◌==◌, ◌&&◌, List, [], ◌∷◌, ◌++◌, map, set, slice_index, Option, Some, None, if◌then◌else◌}
use Rattle.std.specs.List.{range_with_len}
use Rattle.ids_types.specs.declared.names.Stamp.{Stamp}
use Rattle.history_spec.specs.Rounds.{Asked, Round, changes, lines_at, reports}
use Rattle.text_spec.specs.TraceFaults.{with_last}
use Rattle.trace_text.specs.TraceView.{Traced}
use Rattle.gen_options.specs.declared.options.Options.{Options}

-- ---- draws: numbers from a linear congruence of 64 bits, by their upper bits

-- the number after a number
abbrev pub next_number : ℕ → ℕ
next_number x = (x * 6364136223846793005 + 1442695040888963407) % 2 ^ 64

-- the number after so many others, from a start
unfoldable pub number_after : ℕ → ℕ → ℕ
number_after start zero = start
number_after start (suc n) = next_number (number_after start n)

-- the draw below k that a number gives
abbrev pub drawn_below : ℕ → ℕ → ℕ
drawn_below k x = x / 2 ^ 33 % k

-- draw n, from 0, a number below k
abbrev pub draw : ℕ → ℕ → ℕ → ℕ
draw start n k = drawn_below k (number_after start (n + 1))

-- ---- reports

-- a report has no context data, or 4, 16 or 40 bytes
abbrev pub size_of : ℕ → ℕ
size_of choice = slice_index (0 ∷ 4 ∷ 16 ∷ 40 ∷ []) choice

-- the context data of an event's report: bytes that count up from the event's number
abbrev pub context_of : ℕ → ℕ → List ℕ
context_of event size = map (λ i. (event + i) % 256) (range_with_len 0 size)

-- the timestamp of this tick, where the choice is 1
abbrev pub stamp_of : ℕ → ℕ → Option Stamp
stamp_of tick choice = if choice == 0 then None else Some (record { 0 = tick })

-- a report of an event, once to three times, by three choices
abbrev pub report_of : ℕ → (event count stamped size : ℕ) → Asked
report_of tick event count stamped size =
    reports (record { 0 = event }) (1 + count) (stamp_of tick stamped) (context_of event (size_of size))

-- report n, from 0, of all rounds, at this tick
abbrev pub report_at : Options → ℕ → ℕ → Asked
report_at o tick n =
    report_of tick
    (draw o.start (4 * n) o.events) (draw o.start (4 * n + 1) 3) (draw o.start (4 * n + 2) 2) (draw o.start (4 * n + 3) 4)

-- ---- rounds

-- the tick of the turn after round r
abbrev pub tick_after : ℕ → ℕ
tick_after r = 10 * (r + 1)

-- every second round has a turn beside its calls
abbrev pub ticks_beside : ℕ → List ℕ
ticks_beside r = if r % 2 == 1 then (10 * r + 5) ∷ [] else []

-- the last of each hundred rounds begins with a change of the state by the first caller, to 1 and back to 0 in turn
abbrev pub changes_by : ℕ → ℕ → List Asked
changes_by r caller =
    if caller == 0 && r % 100 == 99 then changes (if r / 100 % 2 == 0 then 1 else 0) ∷ [] else []

-- the lines of a caller in round r: its reports are four in a row
abbrev pub lines_by : Options → ℕ → ℕ → List Asked
lines_by o r caller =
    changes_by r caller ++ map (report_at o (tick_after r)) (range_with_len (4 * (r * o.callers + caller)) 4)

-- round r, from 0
abbrev pub generated_round : Options → ℕ → Round
generated_round o r = record {
  beside = ticks_beside r;
  lines = map (lines_by o r) (range_with_len 0 o.callers);
  after = tick_after r;
}

-- all rounds
abbrev pub rounds_of : Options → List Round
rounds_of o = map (generated_round o) (range_with_len 0 o.rounds)

-- how many draws come before the lines of a caller in round r
abbrev pub draws_before : Options → ℕ → ℕ → ℕ
draws_before o r caller = 16 * (r * o.callers + caller)

-- ---- drawing

-- the round with more lines of a caller
abbrev pub asking : ℕ → List Asked → Round → Round
asking caller lines round = record round { lines = set round.lines caller (lines_at caller round ++ lines) }

-- the trace with more lines of a caller in its last round
abbrev pub with_lines : ℕ → List Asked → Traced → Traced
with_lines caller lines trace = record trace { rounds = with_last (asking caller lines) trace.rounds }

-- the bytes from 0 to 255
unfoldable pub ramp : List ℕ
ramp = range_with_len 0 256
