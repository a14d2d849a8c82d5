use Rattle.buffer_classes.proofs.{◌≡◌, vec_capacity, AllOf, AreGiversOf, Freed, givers_of, Below, GoneOn}
use Rattle.buffer_classes.proofs.givers.Givers.release.Given as goal

-- the seats before this one went on
abbrev pub invariant-loop-class : goal.invariant-loop-class
invariant-loop-class l =
    AreGiversOf l.classes l.self
    × AllOf (Below (Freed l.seat) l.class) (givers_of l.initial.self) (givers_of l.self)
    × AllOf (Below (GoneOn l.classes l.seat.number l.seat.claims) l.class) l.initial.seat.seats.items l.seat.seats.items
    × (vec_capacity l.seat.seats ≡ vec_capacity l.initial.seat.seats)
    × (l.seat.number ≡ l.initial.seat.number)
    × (l.seat.claims ≡ l.initial.seat.claims)
