use Rattle.permit_ring.proofs.{rules, read_ready}
use Rattle.permit_ring.proofs.keeper.Keeper.look.Goals as goal

pub load-number-requires : goal.load-number-requires
load-number-requires g c =
    let f = g.F.Freight in
    let keeping = c.requires.mine.keeping in
    let ready = read_ready f.note f.admits_offered f.admits_note _ _ _ _ _ keeping.keeps in
    (keeping.at_table, search rules, ready)
