use Rattle.buffer_classes.proofs.{◌≡◌, ◌++◌, List, length, GetsSeat, ClassSeat, AllOf, From}
use Rattle.buffer_classes.proofs.making.hand_out.Given as goal

abbrev pub invariant-loop-seat : goal.invariant-loop-seat
invariant-loop-seat l =
    ((more : List ClassSeat) × (l.initial.seats.items ≡ l.seats.items ++ more))
    × AllOf (From (GetsSeat l.initial.seats.items) (length l.seats.items)) l.initial.claimants.items l.claimants.items

abbrev pub decreases-loop-seat : goal.decreases-loop-seat
decreases-loop-seat l = length l.seats.items
