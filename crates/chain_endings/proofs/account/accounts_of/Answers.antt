use Rattle.chain_endings.proofs.Lemmas.{map_more, reverse-append, map, reverse, get_or, take, sym, ap, subst, ◌∙◌, arith, ending_of, AreOf, kept_at, accounts_more, at_most_more}
use Rattle.chain_endings.proofs.account.accounts_of.Goals as goal

pub add_to-requires : goal.add_to-requires
add_to-requires c = (c.loop-ending.ending-index, omega arith, c.loop-ending.invariant.few)

pub loop-ending-preserved : goal.loop-ending-preserved
loop-ending-preserved c =
    let i = c.loop-ending.ending-index in
    let told = c.args.told.now in
    let before = c.loop-ending.invariant in
    let ending = ending_of (get_or told i _) in
    let stored = c.is_stored-stored.result in
    let more = ap reverse (map_more ending_of told i _ c.loop-ending-test.true) ∙ reverse-append (map ending_of (take i told)) _ in record {
      are = subst (λ es. AreOf c.args.parts.now es c.add_to.new.accounts.items) (sym more)
          (accounts_more ending stored c.is_stored-stored.ensures c.add_to.ensures.len c.add_to.ensures.each before.are);
      few = λ k less. grind (arith, c.add_to.ensures, before.few k, at_most_more i stored ending (kept_at c.loop-ending.accounts.items k));
    }
