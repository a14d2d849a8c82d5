use Rattle.permit_ring.proofs.{◌≡◌, ◌∙◌, ap, true, arith, rules, common_steps, is_idle, seat_memo, blanks_allowed, joins_allowed}
use Rattle.permit_ring.proofs.keeper.Keeper.hold.Goals as goal

pub split_seat-blank-requires : goal.split_seat-blank-requires
split_seat-blank-requires g c =
    let keeping = c.requires.mine.keeping in
    (keeping.at_table, search rules, blanks_allowed _ _ _ c.args.ring.now.table.shared.key _ _)

pub join_seat-requires : goal.join_seat-requires
join_seat-requires g c =
    let keeping = c.requires.mine.keeping in
    let seat = c.requires.seat in
    let idle : is_idle (seat_memo c.args.seat.now).view ≡ true = grind (arith, common_steps, c.requires) in
    let split = c.split_seat-blank.ensures in
    let keeps = ap (λ me. me.0) split.2 ∙ keeping.keeps in
    rw c.replace_place-place.ensures.place (
      split.0 ∙ keeping.at_table,
      seat.sitting.at_table,
      rw c.requires.idle at seat.in_hand,
      search rules,
      joins_allowed _ _ _ c.args.ring.now.table.shared.key _ _ _ _ _ _ keeps seat.sitting.sits idle,
    )
