use Rattle.permit_ring.proofs.{◌≡◌, true, arith, rules, common_steps, is_idle, seat_memo, joins_allowed}
use Rattle.permit_ring.proofs.keeper.Keeper.welcome.Goals as goal

pub join_seat-requires : goal.join_seat-requires
join_seat-requires g c =
    let keeping = c.requires.mine.keeping in
    let seat = c.requires.seat in
    let idle : is_idle (seat_memo c.args.seat).view ≡ true = grind (arith, common_steps, c.requires) in
    rw c.into_place.ensures (
      keeping.at_table,
      seat.sitting.at_table,
      rw c.requires.idle at seat.in_hand,
      search rules,
      joins_allowed _ _ _ c.args.ring.now.table.shared.key _ _ _ _ _ _ keeping.keeps seat.sitting.sits idle,
    )
