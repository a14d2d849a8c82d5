-- What contracts see of a `LimitState`, and what holds of its fields.
use Rattle.std.specs.Prelude.{IfSome}
use Rattle.limits.specs.declared.state.LimitState.TheInside.{Inside}
use Rattle.limits.specs.Meters.{Meters, HasInterval}

-- the meters that the fields hold
abbrev pub meters_of : Inside → Meters
meters_of s = record { rate = s.rate; traffic = s.traffic }

-- the windows of each limit have at least one tick
abbrev pub HaveIntervals : Inside → Type 0
HaveIntervals s = IfSome s.rate HasInterval × IfSome s.traffic HasInterval
