use Rattle.memory_store.proofs.SlotLemmas.{on_ok_weaker, ◌≡◌, true, refl, ◌∙◌, rules, arith, ChangesIn, KeepsSlot, bytes_of, no_call, settled_leaves, weaker, gate_done, gate_span, shutting_keeps}
use Rattle.memory_store.proofs.writes.shut.Goals as goal

pub returns-then-not-place-clause-any_moment : goal.returns-then-not-place-clause-any_moment
returns-then-not-place-clause-any_moment g c ready = no_call _ _ (settled_leaves _ _ ready.settled.synced refl)

pub returns-clause-any_moment : goal.returns-clause-any_moment
returns-clause-any_moment g c ready =
    let old = g.D.Disk.shows c.args.disk.now in
    let opened : c.args.place.now.is_open ≡ true = first_of (cc, search rules, grind arith) in
    weaker (ChangesIn (gate_span c.args.place.now.slot) (bytes_of old)) (KeepsSlot (bytes_of old)) old.run _
    (λ left. shutting_keeps c.args.place.now.slot c.requires (bytes_of old) left ready.next.keeps (ready.next.gate ∙ opened))
    (rw c.from.ensures at (c.write_through.ensures.any_moment ready.settled))

pub returns-clause-shut : goal.returns-clause-shut
returns-clause-shut g c ready =
    on_ok_weaker c.write_through.result (gate_done c.args.place.now.slot c.requires 0 (bytes_of (g.D.Disk.shows c.args.disk.now)) _ ready.settled.size)
    (rw c.from.ensures at (c.write_through.ensures.written ready.settled))
