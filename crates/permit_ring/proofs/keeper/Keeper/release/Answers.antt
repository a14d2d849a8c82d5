use Rattle.permit_ring.proofs.{rules, releases_allowed}
use Rattle.permit_ring.proofs.keeper.Keeper.release.Goals as goal

pub split_seat-place-requires : goal.split_seat-place-requires
split_seat-place-requires g c =
    let keeping = c.requires.mine.keeping in
    (keeping.at_table, search rules, releases_allowed _ _ _ c.args.ring.now.table.shared.key _ _ _ c.requires.held.memo keeping.keeps c.requires.held.is_first)
