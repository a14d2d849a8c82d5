use Rattle.text_spec.proofs.Names.{◌≡◌, take, length-take, get_or-take, AllPass-from_list_all, sym, ◌∙◌, arith, rules, differs}
use Rattle.text_spec.proofs.PiecesLemmas.{first_piece}
use Rattle.text_spec.proofs.pieces.ends_at_sixteen.Goals as goal

pub returns-clause-pieces : goal.returns-clause-pieces
returns-clause-pieces c free =
    let text = c.args.text.now in
    let sixteen : c.loop-i.i ≡ 16 = omega (arith, c.loop-i-test.false) in
    let all = AllPass-from_list_all (differs c.args.separator) (take 16 text) (rw sixteen at (sym c.loop-i.invariant ∙ free)) in
    first_piece c.args.separator text 16 (omega (arith, c.if-text-le16.false)) (λ k below. grind (arith, get_or-take 16 text k 0 below, all k 0 (omega (arith, length-take 16 text)))) (search rules)
