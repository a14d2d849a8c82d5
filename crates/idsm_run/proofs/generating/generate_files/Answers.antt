use Rattle.cmd_steps.proofs.Names.{ap, does, gen, gen_work, given_of, names_of, read_none, reading_of, refl}
use Rattle.idsm_run.proofs.generating.generate_files.Goals as goal

pub returns : goal.returns
unfolding reading_of
returns g c =
    let wanted = given_of c.args.given in
    c.write_work.ensures.ends (gen wanted) (does (gen_work wanted)) (g.H.Shelf.shows c.args.shelf.now)
    (record { read = read_none _ _; writes = ap names_of c.new_files.ensures.files })
    (rw (c.new_files.ensures.files, c.in_ok-config.ensures.line) refl)
