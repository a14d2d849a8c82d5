-- Meters: what a limit has left, and the step by one message.
use Rattle.std.specs.Prelude.{ℕ, ◌-◌, ◌≤◌, ◌==◌, nat_le, Bool, true, Option, Some, None, option_map, if◌then◌else◌}
use Rattle.ids_config.specs.declared.parts.Window.{Window as Limit}
use Rattle.chain_spec.specs.Limits.{window_at}
use Rattle.chain_spec.specs.declared.fate.Fate.{Fate}
use Rattle.chain_spec.specs.declared.fate.Fate.TheVariants.{AtRate, AtTraffic, Sent}
use Rattle.limits.specs.declared.meter.Meter.{Meter}

-- a meter for each limit that there is
pub record Meters : Type 0 where
  pub rate : Option Meter
  pub traffic : Option Meter

-- the windows of the meter's limit have at least one tick
abbrev pub HasInterval : Meter → Type 0
HasInterval meter = 1 ≤ meter.limit.interval

-- the meter of a limit of which nothing was taken yet
abbrev pub fresh_meter : Limit → Meter
fresh_meter limit = record { limit = limit; window = 0; left = limit.number }

-- the meter in another window, where all of the number is left
abbrev pub renewed : ℕ → Meter → Meter
renewed window meter = record { limit = meter.limit; window = window; left = meter.limit.number }

-- the meter in the window of a tick
abbrev pub in_window : ℕ → Meter → Meter
in_window tick meter =
    let window = window_at meter.limit.interval tick in if meter.window == window then meter else renewed window meter

-- so much is left at a tick
abbrev pub has_left : ℕ → ℕ → Meter → Bool
has_left tick weight meter = nat_le weight (in_window tick meter).left

-- the meter after so much was taken
abbrev pub taken : ℕ → Meter → Meter
taken weight meter = record meter { left = meter.left - weight }

-- the meter after so much was asked for at a tick: it is taken where it is left
abbrev pub after_asking : ℕ → ℕ → Meter → Meter
after_asking tick weight meter =
    if has_left tick weight meter then taken weight (in_window tick meter) else in_window tick meter

-- there is no limit, or so much is left
abbrev pub is_allowed : ℕ → ℕ → Option Meter → Bool
is_allowed tick weight None = true
is_allowed tick weight (Some meter) = has_left tick weight meter

-- the meter, if there is one, after so much was asked for
abbrev pub after_any : ℕ → ℕ → Option Meter → Option Meter
after_any tick weight meter = option_map (after_asking tick weight) meter

-- what is answered to a message of so many bytes at a tick
abbrev pub answer_of : ℕ → ℕ → Meters → Fate
answer_of tick bytes meters =
    if is_allowed tick 1 meters.rate then (if is_allowed tick bytes meters.traffic then Sent else AtTraffic) else AtRate

-- the meters after the message: the traffic is asked where the rate has room
abbrev pub after_message : ℕ → ℕ → Meters → Meters
after_message tick bytes meters = record {
  rate = after_any tick 1 meters.rate;
  traffic = if is_allowed tick 1 meters.rate then after_any tick bytes meters.traffic else meters.traffic;
}
