use Rattle.permit_ring.proofs.{rules, sweep_ready}
use Rattle.permit_ring.proofs.keeper.Keeper.sweep.Goals as goal

pub swap-requires : goal.swap-requires
swap-requires g c =
    let mine = c.requires.mine.keeping in
    (mine.at_table, search rules, sweep_ready _ _ _ _ _ _ _ _ mine.keeps c.args.kind c.requires.kind)
