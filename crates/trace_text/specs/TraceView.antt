-- A trace as contracts see it, and how it lies in memory: each caller's lines of all rounds, and where those of
-- each round begin and end.
use Rattle.std.specs.Prelude.{◌≡◌, ℕ, ◌+◌, ◌-◌, ◌<◌, ◌≤◌, ◌^◌, List, [], ◌∷◌, ◌++◌, length, map, slice_index, slice_index_or, slice_range, take, replicate}
use Rattle.std.specs.List.{AllByRecursion, flat_map, range_with_len}
use Rattle.history_spec.specs.Rounds.{last_tick, lines_of}
use Rattle.text_spec.specs.{asked_more, begun_round, with_last, AreTicks}
use Rattle.text_spec.specs.TraceText.{Asked, Round}
use Rattle.trace_text.specs.declared.trace.RoundEnd.{RoundEnd}
use Rattle.trace_text.specs.declared.trace.Trace.TheInside.{Inside}

-- the number of callers, and the rounds
pub record Traced : Type 0 where
  pub callers : ℕ
  pub rounds : List Round

-- a trace of so many callers, without rounds
abbrev pub no_rounds_of : ℕ → Traced
no_rounds_of callers = record { callers = callers; rounds = [] }

-- one round more, in which no caller has asked for anything yet
abbrev pub with_round : List ℕ → ℕ → Traced → Traced
with_round beside after trace = record trace { rounds = trace.rounds ++ begun_round trace.callers beside after ∷ [] }

-- one line more of a caller, in the last round
abbrev pub with_line : ℕ → Asked → Traced → Traced
with_line caller asked trace = record trace { rounds = with_last (asked_more caller asked) trace.rounds }

-- round k, from 0
abbrev pub round_at : List Round → ℕ → Round
round_at rounds k = slice_index_or rounds k (begun_round 0 [] 0)

-- ---- in memory

-- the ticks beside the calls of all rounds, each caller's lines of all rounds, and the places between rounds: where
-- the first begins, and where each ends
pub record Laid : Type 0 where
  pub beside : List ℕ
  pub lines : List (List Asked)
  pub ends : List RoundEnd

-- where the first round begins
abbrev pub at_start : RoundEnd
at_start = record { beside = 0; lines = replicate 32 0; after = 0 }

-- place k of those between rounds: round k is what stands between place k and the next one
abbrev pub end_at : List RoundEnd → ℕ → RoundEnd
end_at ends k = slice_index_or ends k at_start

-- the lines of a caller between two places
abbrev pub lines_between : Laid → RoundEnd → RoundEnd → ℕ → List Asked
lines_between laid start end caller =
    slice_range (slice_index_or laid.lines caller []) (slice_index start.lines caller) (slice_index end.lines caller)

-- the round between two places
abbrev pub round_between : Laid → RoundEnd → RoundEnd → Round
round_between laid start end = record {
  beside = slice_range laid.beside start.beside end.beside;
  lines = map (lines_between laid start end) (range_with_len 0 (length laid.lines));
  after = end.after;
}

-- the rounds that lie so
abbrev pub rounds_laid : Laid → List Round
rounds_laid laid = map (λ k. round_between laid (end_at laid.ends k) (end_at laid.ends (k + 1))) (range_with_len 0 (length laid.ends - 1))

-- the lists of a trace
abbrev pub laid_of : Inside → Laid
laid_of t = record { beside = t.beside.items; lines = t.rows; ends = t.ends.items }

-- the rounds of a trace
abbrev pub traced : Inside → Traced
traced t = record { callers = length t.rows; rounds = rounds_laid (laid_of t) }

-- these rounds end here
pub record IsEnd (rounds : List Round) (end : RoundEnd) : Type 0 where
  pub beside : end.beside ≡ length (flat_map (λ (round : Round). round.beside) rounds)
  pub lines : (caller : ℕ) → slice_index end.lines caller ≡ length (lines_of caller rounds)
  pub all_callers : length end.lines ≡ 32
  pub after : end.after ≡ last_tick rounds

-- the lists are those of these rounds, one after the other
pub record Lie (laid : Laid) (rounds : List Round) : Type 0 where
  pub beside : laid.beside ≡ flat_map (λ (round : Round). round.beside) rounds
  pub lines : (caller : ℕ) → slice_index_or laid.lines caller [] ≡ lines_of caller rounds
  pub callers : AllByRecursion (λ (round : Round). length round.lines ≡ length laid.lines) rounds
  pub as_many : length laid.ends ≡ length rounds + 1
  pub ends : (k : ℕ) → k ≤ length rounds → IsEnd (take k rounds) (end_at laid.ends k)

-- a trace's lists are those of its rounds, whose ticks never fall
pub record IsSound (t : Inside) : Type 0 where
  pub few : length t.rows ≤ 32
  pub few_lines : (caller : ℕ) → length (slice_index_or t.rows caller []) < 2 ^ 32
  pub lie : Lie (laid_of t) (rounds_laid (laid_of t))
  pub ticks : AreTicks (rounds_laid (laid_of t))
