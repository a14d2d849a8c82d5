-- Rests of a run, when no call and no turn was under way, and what was called and lost between two of them.
use Rattle.std.specs.Prelude.{◌≡◌, ℕ, zero, suc, ◌+◌, ◌-◌, ◌≤◌, nat_lt, List, length, filter, take, drop}
use Rattle.history_spec.specs.Names.{Loss}
use Rattle.ids_types.specs.Turns.{Turn}
use Rattle.history_spec.specs.Losses.{entries_before}
use Rattle.history_spec.specs.Merge.{AreMerged}
use Rattle.history_spec.specs.Orders.{StandsIn}

-- a rest: how many turns there were, and how many calls of each caller
pub record Rest : Type 0 where
  pub turns : ℕ
  pub calls : ℕ → ℕ

-- the rest before all turns and calls
abbrev pub start : Rest
start = record { turns = 0; calls = λ caller. 0 }

-- the losses of calls that were made by then
abbrev pub lost_by : Rest → List Loss → List Loss
lost_by rest losses = filter (λ loss. nat_lt loss.call (rest.calls loss.caller)) losses

-- all is settled at the rest, over a ring of n places: the turns and the losses so far are one merge of the calls so far
abbrev pub IsSettledAt : ℕ → List Turn → List Loss → Rest → Type 0
IsSettledAt n turns losses rest = AreMerged n rest.calls (take rest.turns turns) (lost_by rest losses)

-- each later call that was lost saw given back all that the turns so far had taken
abbrev pub SeesAll : List Turn → List Loss → Rest → Type 0
SeesAll turns losses rest = (loss : Loss) → StandsIn losses loss → rest.calls loss.caller ≤ loss.call
    → entries_before rest.turns turns ≤ loss.given

-- all calls and turns so far are over at the rest, and what comes later knows of them
pub record Rested (n : ℕ) (turns : List Turn) (losses : List Loss) (rest : Rest) : Type 0 where
  pub settled : IsSettledAt n turns losses rest
  pub sees : SeesAll turns losses rest

-- the second rest comes after the first, and callers beyond so many made no call
pub record IsLater (callers : ℕ) (first second : Rest) : Type 0 where
  pub turns_rise : first.turns ≤ second.turns
  pub calls_rise : (caller : ℕ) → first.calls caller ≤ second.calls caller
  pub no_others : (caller : ℕ) → callers ≤ caller → second.calls caller ≡ 0

-- how many calls so many callers made between two rests
abbrev pub calls_between : ℕ → Rest → Rest → ℕ
calls_between zero first second = 0
calls_between (suc caller) first second = calls_between caller first second + (second.calls caller - first.calls caller)

-- how many of the calls between two rests were lost
abbrev pub lost_between : Rest → Rest → List Loss → ℕ
lost_between first second losses = length (lost_by second losses) - length (lost_by first losses)

-- the turns between two rests
abbrev pub turns_between : Rest → Rest → List Turn → List Turn
turns_between first second turns = take (second.turns - first.turns) (drop first.turns turns)
