use Rattle.buffer_classes.proofs.{◌≡◌, vec_capacity, AllOf, AreGiversOf, Welcomed, givers_of, Below, Held}
use Rattle.buffer_classes.proofs.givers.Givers.hold.Given as goal

-- the seats before this one are held
abbrev pub invariant-loop-class : goal.invariant-loop-class
invariant-loop-class l =
    AreGiversOf l.classes l.self
    × AllOf (Below (Welcomed l.initial.seat) l.class) (givers_of l.initial.self) (givers_of l.self)
    × AllOf (Below Held l.class) l.initial.seat.seats.items l.seat.seats.items
    × (vec_capacity l.seat.seats ≡ vec_capacity l.initial.seat.seats)
    × (l.seat.number ≡ l.initial.seat.number)
    × (l.seat.claims ≡ l.initial.seat.claims)
