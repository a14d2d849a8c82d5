-- The limits after a list of candidates, the newest first.
-- Public standard: AUTOSAR SWS Intrusion Detection System Manager, rate and traffic limitation.
use Rattle.std.specs.Prelude.{◌≡◌, ℕ, ◌-◌, ◌≤◌, List, Option, Some, None, if◌then◌else◌, ⊤}
use Rattle.std.specs.List.{AllByRecursion}
use Rattle.ids_config.specs.Parts.{Parts}
use Rattle.ids_config.specs.declared.parts.Window.{Window as Limit}
use Rattle.chain_spec.specs.{Candidate, window_at, load, passes_rate, passes_traffic, sent_of, EndBy}
use Rattle.limits.specs.Meters.{Meters}
use Rattle.chain_spec.specs.declared.fate.Fate.{Fate}
use Rattle.chain_spec.specs.declared.fate.Fate.TheVariants.{AtRate, AtTraffic, Sent}
use Rattle.limits.specs.declared.meter.Meter.{Meter}

-- what is answered to a candidate, where these came before it
abbrev pub answer_to : Parts → List Candidate → Candidate → Fate
answer_to config before candidate =
    if passes_rate config.rate before candidate
    then (if passes_traffic config.traffic (sent_of config.rate config.traffic before) candidate then Sent else AtTraffic)
    else AtRate

-- a meter, where these candidates came and these of them counted: it tells what is left in its window, none that
-- counted lies in a later window, and none that may come next lies in an earlier one
pub record Measures (weight : Candidate → ℕ) (before counted : List Candidate) (meter : Meter) : Type 0 where
  pub left : meter.left ≡ meter.limit.number - load meter.limit.interval weight counted meter.window
  pub so_far : AllByRecursion (λ one. window_at meter.limit.interval one.tick ≤ meter.window) counted
  pub not_ahead : (tick : ℕ) → EndBy (λ one. one.tick) tick before → meter.window ≤ window_at meter.limit.interval tick

-- a meter for a limit, and none for none
abbrev pub MeasuresAny : Option Limit → (Candidate → ℕ) → List Candidate → List Candidate → Option Meter → Type 0
MeasuresAny None weight before counted None = ⊤
MeasuresAny None weight before counted (Some meter) = ⊥
MeasuresAny (Some limit) weight before counted None = ⊥
MeasuresAny (Some limit) weight before counted (Some meter) = (meter.limit ≡ limit) × Measures weight before counted meter

-- the meters after these candidates: all of them count for the rate, and those that were sent for the traffic
pub record Stands (config : Parts) (before : List Candidate) (meters : Meters) : Type 0 where
  pub rate : MeasuresAny config.rate (λ one. 1) before before meters.rate
  pub traffic : MeasuresAny config.traffic (λ one. one.bytes) before (sent_of config.rate config.traffic before) meters.traffic
