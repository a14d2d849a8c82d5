-- What the callers of the first program do.
use Rattle.std.specs.Prelude.{◌≡◌, ◌+◌, true, List}
use Rattle.std.specs.List.{All}
use Rattle.idsm_api.specs.declared.caller.Caller.{Caller}
use Rattle.idsm_api.specs.{AreSameCallers, IsFitCaller, IsSameCaller, log_of, may_report, no_calls}

-- the caller made no call yet, and may report event 0
pub record IsReady (caller : Caller) : Type 0 where
  pub fits : IsFitCaller caller
  pub none : log_of caller ≡ no_calls
  pub known : may_report caller 0 ≡ true

-- its one report was accepted or lost
abbrev pub IsCounted : Caller → Type 0
IsCounted caller = (log_of caller).accepted + (log_of caller).lost ≡ 1

-- it made one report
pub record HasReported (old new : Caller) : Type 0 where
  pub fits : IsFitCaller new
  pub same : IsSameCaller old new
  pub one : IsCounted new

-- each of them did so
pub record HaveReported (olds news : List Caller) : Type 0 where
  pub same : AreSameCallers olds news
  pub each : All IsCounted news
