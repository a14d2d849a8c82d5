use Rattle.permit_ring.proofs.Names.{◌≡◌, ◌+◌, ◌≤◌, ◌-◌, [], Keeps, AreNewSeats, made_memo, IsKeeping, vec_capacity}
use Rattle.permit_ring.proofs.making.make_seats.Given as goal

abbrev pub invariant-loop-number : goal.invariant-loop-number
invariant-loop-number g l =
    IsKeeping l.ring l.place
    × (l.place.me ≡ (Keeps l.ring.table.shared.key (made_memo l.ring.positions l.number), []))
    × AreNewSeats g.F.Freight.admits_offered l.ring l.number l.seats.items
    × (l.seats.len + (l.ring.limit - l.number) ≤ vec_capacity l.seats)
