use Rattle.std.proofs.Common.{◌≡◌, ◌++◌, Some, option_to_list, subst}
use Rattle.std.proofs.lemmas.List.Elements.{All-pop}
use Rattle.test_chains.specs.Remembered.{IsFresh}
use Rattle.test_chains.proofs.fresh.next.Goals as goal

pub returns-clause-fresh : goal.returns-clause-fresh
returns-clause-fresh c config all =
    let old = c.args.chains.now.items in
    let new = c.pop.new.self.items in
    let whole = subst (λ o. old ≡ new ++ option_to_list o) c.unwrap.ensures c.pop.ensures.items in
    All-pop (IsFresh config) old new (Some c.unwrap.result) whole all
