-- The limits of what is sent: so many messages and so many bytes in each window of ticks. Candidates have the
-- newest first.
-- Public standard: AUTOSAR SWS Intrusion Detection System Manager, rate and traffic limitation. That a window
-- is the tick divided by the interval, and that the rate is asked first, are this project's own.
use Rattle.std.specs.Prelude.{ℕ, ◌+◌, ◌/◌, ◌==◌, ◌&&◌, nat_le, Bool, true, List, Option, Some, None, sum_by, filter}
use Rattle.ids_config.specs.declared.parts.Window.{Window as Limit}
use Rattle.chain_spec.specs.Stages.{passed}

-- a message that may be sent: its tick, and how many bytes it has
pub record Candidate : Type 0 where
  pub tick : ℕ
  pub bytes : ℕ

-- the window of a tick, numbered from 0
abbrev pub window_at : ℕ → ℕ → ℕ
window_at interval tick = tick / interval

-- those of the candidates that lie in a window
abbrev pub those_in : ℕ → List Candidate → ℕ → List Candidate
those_in interval candidates window = filter (λ one. window_at interval one.tick == window) candidates

-- what they weigh together
abbrev pub load : ℕ → (Candidate → ℕ) → List Candidate → ℕ → ℕ
load interval weight candidates window = sum_by weight (those_in interval candidates window)

-- the limit has room for one more beside these; without a limit there is room
abbrev pub has_room : Option Limit → (Candidate → ℕ) → List Candidate → Candidate → Bool
has_room None weight others candidate = true
has_room (Some limit) weight others candidate =
    let used = load limit.interval weight others (window_at limit.interval candidate.tick) in
    nat_le (used + weight candidate) limit.number

-- the rate limit lets the candidate pass: each candidate before it counts
abbrev pub passes_rate : Option Limit → List Candidate → Candidate → Bool
passes_rate rate before candidate = has_room rate (λ one. 1) before candidate

-- the traffic limit lets the candidate pass: the bytes of those that were sent count
abbrev pub passes_traffic : Option Limit → List Candidate → Candidate → Bool
passes_traffic traffic sent candidate = has_room traffic (λ one. one.bytes) sent candidate

-- the candidate is sent, if these came before it and these of them were sent
abbrev pub is_sent : Option Limit → Option Limit → List Candidate → List Candidate → Candidate → Bool
is_sent rate traffic before sent candidate = passes_rate rate before candidate && passes_traffic traffic sent candidate

-- the candidates that are sent
abbrev pub sent_of : Option Limit → Option Limit → List Candidate → List Candidate
sent_of rate traffic candidates = passed (is_sent rate traffic) candidates

-- whether the next candidate is sent, if these came before it
abbrev pub is_let_out : Option Limit → Option Limit → List Candidate → Candidate → Bool
is_let_out rate traffic before candidate = is_sent rate traffic before (sent_of rate traffic before) candidate
