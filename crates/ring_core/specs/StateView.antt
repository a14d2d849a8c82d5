-- What contracts see of a `RingState`.
use Rattle.std.specs.Prelude.{◌≤◌}
use Rattle.ring_core.specs.Names.{vec_capacity}
use Rattle.ring_core.specs.declared.state.RingState.TheInside.{Inside}
use Rattle.ring_core.specs.Machine.{Machine}
use Rattle.ring_core.specs.Sound.{IsRing}

-- the state of the machine
abbrev pub machine_of : Inside → Machine
machine_of s = record {
  positions = s.positions;
  limit = s.limit;
  word = s.word;
  offered = s.offered;
  reaped = s.reaped;
  marks = s.marks.items;
  loss0 = s.loss0;
  loss1 = s.loss1;
  seats = s.seats.items;
  seen = s.seen;
}

-- the state is that of a ring, and there is memory for each seat that may be made
pub record IsKept (s : Inside) : Type 0 where
  pub ring : IsRing (machine_of s)
  pub room : s.limit ≤ vec_capacity s.seats
