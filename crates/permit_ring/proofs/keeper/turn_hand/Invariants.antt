use Rattle.permit_ring.proofs.Names.{◌≡◌, ◌++◌, take, drop}
use Rattle.permit_ring.proofs.keeper.turn_hand.Given as goal

abbrev pub invariant-loop : goal.invariant-loop
invariant-loop g l = (l.place.table_id ≡ l.initial.place.table_id) × (l.place.id ≡ l.initial.place.id)
    × (l.place.me ≡ (l.initial.place.me.0, drop l.counter l.initial.place.me.1 ++ take l.counter l.initial.place.me.1))
