use Rattle.chain_endings.proofs.Lemmas.{arith, plain_entry, count_few, count_next}
use Rattle.chain_endings.proofs.account.missing_in.Goals as goal

pub count_missing-requires : goal.count_missing-requires
count_missing-requires c k less =
    let few = count_few (plain_entry c.in-Some-pop_front.entry) (rw c.in-Some-pop_front.ensures.some at c.loop-entry.invariant) k less in
    omega (arith, few, c.total_entries-entries.ensures)

pub loop-entry-preserved : goal.loop-entry-preserved
loop-entry-preserved c = count_next (plain_entry c.in-Some-pop_front.entry) c.count_missing.ensures.len c.count_missing.ensures.each
    (rw c.in-Some-pop_front.ensures.some at c.loop-entry.invariant)
