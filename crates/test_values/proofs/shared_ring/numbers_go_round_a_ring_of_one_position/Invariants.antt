use Rattle.std.proofs.Common.{◌≡◌, None}
use Rattle.std.specs.Prelude.{⊤}
use Rattle.permit_ring.specs.Seats.{IsKeeperOf, IsSeatOf, seat_calls, seat_ticket}
use Rattle.test_values.proofs.shared_ring.numbers_go_round_a_ring_of_one_position.Given as goal

abbrev pub invariant-loop-number : goal.invariant-loop-number
invariant-loop-number g l =
    IsKeeperOf (λ terms room. ⊤) l.ring l.keeper
    × IsSeatOf (λ terms room. ⊤) l.ring l.seat
    × (seat_ticket l.seat ≡ None)
    × (seat_calls l.seat ≡ l.number)
