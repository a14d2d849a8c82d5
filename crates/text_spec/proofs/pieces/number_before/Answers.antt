use Rattle.text_spec.proofs.Names.{◌+◌, arith, common_steps, take_rest}
use Rattle.text_spec.proofs.PiecesLemmas.{first_piece}
use Rattle.text_spec.proofs.pieces.number_before.Goals as goal

pub returns-in_err-number : goal.returns-in_err-number
returns-in_err-number c =
    let piece = first_piece c.args.separator c.args.text.now c.args.i c.requires.within c.requires.digits.free c.if-text-i.false in
    rw piece (grind (arith, common_steps))

pub returns : goal.returns
returns c =
    let piece = first_piece c.args.separator c.args.text.now c.args.i c.requires.within c.requires.digits.free c.if-text-i.false in
    rw (take_rest c.args.text.now (c.args.i + 1), piece) (grind (arith, common_steps))
