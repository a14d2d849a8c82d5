-- No step changes the sizes of a ring.
use Rattle.ring_core.proofs.Names.{◌≡◌, arith, Step, HasSizes, after, Machine}

pub same_sizes : (m now : Machine) → now ≡ m → HasSizes m.positions m.limit now
same_sizes m now e = record { positions_are = cc; limit_is = cc }

pub after_sizes : (m : Machine) (step : Step) → HasSizes m.positions m.limit (after m step)
after_sizes m step = grind arith
