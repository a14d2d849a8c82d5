use Rattle.cmd_files.proofs.Names.{WriteFails, arith}
use Rattle.cmd_files.proofs.outputs.write_file.Goals as goal

pub returns-in_err-create : goal.returns-in_err-create
returns-in_err-create g c =
    let old = g.H.Shelf.shows c.args.shelf.now in
    let new = g.H.Shelf.shows c.create.new.self in
    let fails : WriteFails old.faults new.faults c.args.file.name.now c.in_err-create.field-0.0 = grind (arith, c.in_err-create.ensures.cause) in
    grind (arith, fails, c.create.ensures.tells, c.in_err-create.ensures.makes, c.from_residual.ensures.1)
