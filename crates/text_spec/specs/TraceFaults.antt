-- The faults of a trace's line, 2 to 5, after what the lines before it tell. Fault 1 is a line that has no form.
-- Source: the text formats of this project (docs/FORMATS.md).
use Rattle.std.specs.Prelude.{◌&&◌, ◌∷◌, ◌++◌}
use Rattle.text_spec.specs.Below.{ℕ, not, nat_lt, nat_le, Bool, true, false, List, [], replicate, set, Result, ⊤, list_all, Parts, ◌>>◌, asks, lines_at, last_tick, Act, Report, State, SetMode, Absent, Asked, reports, changes, sets, Round}
use Rattle.text_spec.specs.JournalFaults.{is_tick, is_act, has_event}
use Rattle.text_spec.specs.TraceText.{TraceLine, opens, calls, closes}

-- ---- faults 3 and 4: ranges and events

-- the act that is asked for, but for its context
abbrev pub act_asked : Asked → Act (List ℕ)
act_asked (reports event count stamp bytes) = Report event count stamp Absent
act_asked (changes state) = State state
act_asked (sets event mode) = SetMode event mode

-- the numbers of a line that a caller asks by are in the ranges of a journal's, and its event may stand there
abbrev pub is_allowed : Parts → Asked → Bool
is_allowed config asked = is_act (act_asked asked) && has_event config (act_asked asked)

-- ---- faults 2 and 5: what the lines before ask of a line

-- no tick is below the one before it, the first not below this one
abbrev pub keep_up : ℕ → List ℕ → Bool
keep_up least [] = true
keep_up least (tick ∷ ticks) = nat_le least tick && keep_up tick ticks

-- what the lines so far tell: the rounds, and whether the last of them has not ended yet. Its tick is then the
-- last one so far.
pub record PastRounds : Type 0 where
  pub rounds : List Round
  pub is_open : Bool

-- no line was read
abbrev pub no_rounds : PastRounds
no_rounds = record { rounds = []; is_open = false }

-- the last of some ticks, this one where there are none
abbrev pub last_from : ℕ → List ℕ → ℕ
last_from tick [] = tick
last_from tick (next ∷ ticks) = last_from next ticks

-- a round of so many callers, which have asked for nothing yet
abbrev pub begun_round : ℕ → List ℕ → ℕ → Round
begun_round callers beside after = record { beside = beside; lines = replicate callers []; after = after }

-- the round with one line more of a caller
abbrev pub asked_more : ℕ → Asked → Round → Round
asked_more caller asked round = record round { lines = set round.lines caller (lines_at caller round ++ asked ∷ []) }

-- the round with this tick after its calls
abbrev pub ended_at : ℕ → Round → Round
ended_at tick round = record round { after = tick }

-- the rounds, the last of them changed
abbrev pub with_last : (Round → Round) → List Round → List Round
with_last change [] = []
with_last change (round ∷ []) = change round ∷ []
with_last change (round ∷ next ∷ rounds) = round ∷ with_last change (next ∷ rounds)

-- the lines so far with one more
abbrev pub next_rounds : Parts → PastRounds → TraceLine → PastRounds
next_rounds config past (opens ticks) =
    record { rounds = past.rounds ++ begun_round config.callers ticks (last_from (last_tick past.rounds) ticks) ∷ []; is_open = true }
next_rounds config past (calls caller asked) = record past { rounds = with_last (asked_more caller asked) past.rounds }
next_rounds config past (closes tick) = record { rounds = with_last (ended_at tick) past.rounds; is_open = false }

-- ---- the first fault of a line

-- the first fault of a line that begins a round
abbrev pub opening_fault : PastRounds → List ℕ → Result ⊤ ℕ
opening_fault past ticks =
    asks 2 (not past.is_open)
    >> asks 3 (list_all is_tick ticks)
    >> asks 5 (keep_up (last_tick past.rounds) ticks)

-- the first fault of a line that a caller asks by
abbrev pub asked_fault : Parts → PastRounds → ℕ → Asked → Result ⊤ ℕ
asked_fault config past caller asked =
    asks 2 past.is_open
    >> asks 3 (nat_lt caller config.callers && is_act (act_asked asked))
    >> asks 4 (has_event config (act_asked asked))

-- the first fault of a line that ends a round
abbrev pub closing_fault : PastRounds → ℕ → Result ⊤ ℕ
closing_fault past tick =
    asks 2 past.is_open
    >> asks 3 (is_tick tick)
    >> asks 5 (nat_le (last_tick past.rounds) tick)

-- the first fault of a line that has a form
abbrev pub trace_fault_of : Parts → PastRounds → TraceLine → Result ⊤ ℕ
trace_fault_of config past (opens ticks) = opening_fault past ticks
trace_fault_of config past (calls caller asked) = asked_fault config past caller asked
trace_fault_of config past (closes tick) = closing_fault past tick
