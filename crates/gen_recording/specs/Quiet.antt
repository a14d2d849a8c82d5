-- The history of rounds in which nothing is lost: in each round one caller after the other makes its calls, in order,
-- and the turn after the round takes them all. Each list of turns or calls has its newest element first.
use Rattle.std.specs.Prelude.{ℕ, suc, ◌==◌, Bool, false, List, [], ◌∷◌, ◌++◌, length, filter, map, reverse}
use Rattle.std.specs.List.{flat_map}
use Rattle.history_spec.specs.Names.{Carried, Absent, Kept, Act, Report, State, SetMode, Entry}
use Rattle.ids_types.specs.Turns.{Turn}
use Rattle.ids_config.specs.Parts.{Parts}
use Rattle.chain_spec.specs.Chain.{handed_on}
use Rattle.history_spec.specs.{too_small, Asked, reports, changes, sets, Round, last_tick}

-- ---- calls

-- a call: who makes it, and what is asked
pub record Call : Type 0 where
  pub caller : ℕ
  pub asked : Asked

-- the call is this caller's
abbrev pub is_by : ℕ → Call → Bool
is_by caller call = call.caller == caller

-- what is asked has context data that go into a buffer of this class: the smallest that fits
abbrev pub keeps_in : Parts → ℕ → Asked → Bool
keeps_in config class (reports event count stamp []) = false
keeps_in config class (reports event count stamp (byte ∷ bytes)) = too_small config (length (byte ∷ bytes)) == class
keeps_in config class other = false

-- how many calls the caller made before
abbrev pub calls_before : ℕ → List Call → ℕ
calls_before caller before = length (filter (is_by caller) before)

-- how many buffers of the class were claimed before
abbrev pub claims_before : Parts → ℕ → List Call → ℕ
claims_before config class before = length (filter (λ call. keeps_in config class call.asked) before)

-- ---- entries

-- the context data, kept by the class's next claim
abbrev pub carried : Parts → List Call → List ℕ → Carried (List ℕ)
carried config before [] = Absent
carried config before (byte ∷ bytes) =
    let class = too_small config (length (byte ∷ bytes)) in
    Kept class (claims_before config class before) (byte ∷ bytes)

-- the act of what is asked after these calls
abbrev pub act_of : Parts → List Call → Asked → Act (List ℕ)
act_of config before (reports event count stamp bytes) = Report event count stamp (carried config before bytes)
act_of config before (changes state) = State state
act_of config before (sets event mode) = SetMode event mode

-- the entry of a call after these calls
abbrev pub entry_of : Parts → List Call → Call → Entry (List ℕ)
entry_of config before call = record {
  caller = call.caller;
  call = calls_before call.caller before;
  act = act_of config before call.asked;
}

-- the entries of calls, the first of them first, after others
abbrev pub entries_of : Parts → List Call → List Call → List (Entry (List ℕ))
entries_of config before [] = []
entries_of config before (call ∷ calls) = entry_of config before call ∷ entries_of config (call ∷ before) calls

-- ---- turns

-- a turn to be made: its tick, and the calls that it takes, the first of them first
pub record Plan : Type 0 where
  pub tick : ℕ
  pub calls : List Call

-- the calls of turns
abbrev pub calls_of : List Plan → List Call
calls_of [] = []
calls_of (plan ∷ before) = reverse plan.calls ++ calls_of before

-- a turn after others: it takes its calls, nothing was lost, and it tells what the turns before hand on to it
abbrev pub turn_of : Parts → List Turn → List Call → Plan → Turn
turn_of config turns before plan = record {
  head = record { tick = plan.tick; lost_events = 0; lost_contexts = 0; limited = handed_on config turns };
  entries = entries_of config before plan.calls;
}

-- the turns, as they are planned
abbrev pub turns_of : Parts → List Plan → List Turn
turns_of config [] = []
turns_of config (plan ∷ before) =
    let turns = turns_of config before in
    turn_of config turns (calls_of before) plan ∷ turns

-- ---- rounds

-- a caller's call
abbrev pub call_by : ℕ → Asked → Call
call_by caller asked = record { caller = caller; asked = asked }

-- the calls of callers from this one on, one caller after the other
abbrev pub calls_from : ℕ → List (List Asked) → List Call
calls_from caller [] = []
calls_from caller (lines ∷ others) = map (call_by caller) lines ++ calls_from (suc caller) others

-- a turn that takes nothing
abbrev pub idle : ℕ → Plan
idle tick = record { tick = tick; calls = [] }

-- the turns of a round, the first of them first: those beside its calls come before them
abbrev pub plans_in : Round → List Plan
plans_in round = map idle round.beside ++ record { tick = round.after; calls = calls_from 0 round.lines } ∷ []

-- the turns of rounds, and the last one
abbrev pub plans_of : List Round → List Plan
plans_of rounds = flat_map plans_in rounds ++ idle (last_tick rounds) ∷ []

-- the history, its first turn first
abbrev pub history_of : Parts → List Round → List Turn
history_of config rounds = reverse (turns_of config (reverse (plans_of rounds)))
