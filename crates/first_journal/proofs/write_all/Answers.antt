use Rattle.std.proofs.Common.{rules, subst}
use Rattle.std.proofs.lemmas.List.{with_items_is}
use Rattle.idsm_api.proofs.ClosingLemmas.{called_on}
use Rattle.idsm_api.specs.{AreSameCallers, CloseTells, CountsTell}
use Rattle.first_journal.proofs.WritingLemmas.{front_is, is_over, still_all}
use Rattle.first_journal.proofs.write_all.Goals as goal

pub close-closed-requires-clause-callers : goal.close-closed-requires-clause-callers
close-closed-requires-clause-callers g c =
    let news = c.make_beside.new.callers in
    let same = subst (λ items. AreSameCallers items news) c.deref_mut.ensures.value c.make_beside.ensures.same in
    let many = same.as_many in
    rw (with_items_is c.args.callers.now news (search (rules, many))) (still_all c.in_ok-make_beside.ensures.goes.shares (called_on c.requires.callers same))

pub returns : goal.returns
returns g c =
    let news = c.make_beside.new.callers in
    let same = subst (λ items. AreSameCallers items news) c.deref_mut.ensures.value c.make_beside.ensures.same in
    let many = same.as_many in
    let now = c.close-closed.new in
    let told = rw (with_items_is c.args.callers.now news (search (rules, many))) at c.close-closed.ensures.told in
    let counts = rw (with_items_is c.args.callers.now news (search (rules, many))) at c.close-closed.ensures.counts in
    let made = (subst (λ answer. CloseTells 101 c.make_beside.new.manager news c.make_beside.new.buffer answer now.self now.callers.items now.buffer) c.in-Done.is told).0 in
    let is = front_is c.close-closed.result.answer now.self c.in-Done.is c.close-closed.ensures.numbers made.written in
    is_over (search rules) (search rules) c.in_ok-make_beside.ensures.goes made
    (subst (λ answer. CountsTell answer news c.close-closed.result.totals) c.in-Done.is counts) c.in_ok-add.ensures (search (rules, is))
