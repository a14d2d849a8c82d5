use Rattle.journal.proofs.Names.{◌+◌, arith, refl, entry_by, sum_by-take-le, most_of}
use Rattle.journal.proofs.LengthLemmas.{most_all, most_more}
use Rattle.journal.proofs.lengths.turn_fits.Goals as goal

pub loop-entry-preserved : goal.loop-entry-preserved
loop-entry-preserved g c =
    let held = entry_by g.B.Parcel.held in
    let more = most_more held c.args.items.now c.loop-entry.entry-index c.entry-item.result c.entry-item.result c.loop-entry-test.true c.entry-item.is in
    omega (arith, more, c.loop-entry.invariant, c.in-Some-left_after.ensures.some)

pub returns-in-None : goal.returns-in-None
returns-in-None g c = λ head.
    let held = entry_by g.B.Parcel.held in
    let items = c.args.items.now in
    let i = c.loop-entry.entry-index in
    let more = most_more held items i c.entry-item.result c.entry-item.result c.loop-entry-test.true c.entry-item.is in
    let within = sum_by-take-le (λ entry. most_of (held entry).act) items (i + 1) in
    let less = c.in-None.ensures.none refl in
    (λ is. absurd (cc), λ fits. absurd (omega (arith, rw (most_all held head items) at fits, c.loop-entry.invariant, more, within, less)))
