use Rattle.chain_plain.proofs.Names.{◌≡◌, map, plain_entry, refl, arith, common_steps}
use Rattle.chain_plain.proofs.TurningLemmas.{items_fit}
use Rattle.chain_plain.proofs.desk.Desk.take.Goals as goal

-- the items fit, since the entries do, and there is as much room as before
pub turn-requires : goal.turn-requires
turn-requires g c κs =
    let same : map plain_entry c.put_after.new.items.items ≡ c.args.entries = grind (arith, common_steps) in
    let room = c.requires.ready.room in
    ((refl, tt), (c.requires.fits, (grind (arith, common_steps, room), (items_fit _ _ _ c.args.entries same c.requires.entries, c.requires.kept))))
