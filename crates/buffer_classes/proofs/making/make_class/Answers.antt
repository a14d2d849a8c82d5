use Rattle.buffer_classes.proofs.Names.{arith, length-replicate, ◌∙◌, ap, length, None, untouched}
use Rattle.buffer_classes.proofs.making.make_class.Goals as goal

pub returns : goal.returns
returns c =
    let is = untouched {N = Unit {0}} c.args.spec.number c.args.seats in
    grind (arith, c.in_ok-made.ensures, is, ap length is.back_is ∙ length-replicate c.args.seats None, c.in_ok-late.ensures)
