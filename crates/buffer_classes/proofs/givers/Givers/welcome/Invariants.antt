use Rattle.buffer_classes.proofs.{◌≡◌, ◌++◌, List, length, AreGiversOf, Welcomed, givers_of, ClassSeat, AllOf, From}
use Rattle.buffer_classes.proofs.givers.Givers.welcome.Given as goal

abbrev pub invariant-loop-its : goal.invariant-loop-its
invariant-loop-its l =
    AreGiversOf l.classes l.self
    × ((more : List ClassSeat) × (l.initial.seat.seats.items ≡ l.seat.seats.items ++ more))
    × AllOf (From (Welcomed l.initial.seat) (length l.seat.seats.items)) (givers_of l.initial.self) (givers_of l.self)

abbrev pub decreases-loop-its : goal.decreases-loop-its
decreases-loop-its l = length l.seat.seats.items
