use Rattle.memory_store.proofs.SlotLemmas.{on_ok_weaker, bytes_of, goes_on_with, weaker, body_done, body_leaves, open_done, open_step}
use Rattle.memory_store.proofs.writes.put_slot.Goals as goal

pub returns-in_err-write_through-clause-any_moment : goal.returns-in_err-write_through-clause-any_moment
returns-in_err-write_through-clause-any_moment g c ready =
    body_leaves c.args.place.now c.requires.slot c.args.body.now c.requires.body (g.D.Disk.shows c.args.disk.now) ready.next
    (g.D.Disk.shows c.shut.new.disk) (g.D.Disk.shows c.write_through.new.disk) (c.in_ok-shut.ensures.shut ready) (c.shut.ensures.any_moment ready)
    (rw c.from-gate.ensures at (c.write_through.ensures.any_moment (c.in_ok-shut.ensures.settled ready)))

pub returns-clause-any_moment : goal.returns-clause-any_moment
returns-clause-any_moment g c ready =
    let shows = g.D.Disk.shows in
    let old = shows c.args.disk.now in
    let written = shows c.write_through.new.disk in
    let place = c.args.place.now in
    let body = c.args.body.now in
    let settled = c.in_ok-shut.ensures.settled ready in
    let has = body_done place c.requires.slot body c.requires.body old ready.next _ (bytes_of written) settled.size
    (c.in_ok-shut.ensures.shut ready) (rw c.from-gate.ensures at (c.in_ok-write_through.ensures.written settled)) in
    goes_on_with _ _ written.run _
    (body_leaves place c.requires.slot body c.requires.body old ready.next (shows c.shut.new.disk) written (c.in_ok-shut.ensures.shut ready)
    (c.shut.ensures.any_moment ready) (rw c.from-gate.ensures at (c.write_through.ensures.any_moment settled)))
    (weaker _ _ written.run _ (λ left. open_step place c.requires.slot body c.requires.body old ready.next (bytes_of written) left has)
    (rw c.from-gate.ensures at (c.write_through-2.ensures.any_moment (c.in_ok-write_through.ensures.settled settled))))

pub returns-clause-saved : goal.returns-clause-saved
returns-clause-saved g c ready =
    let old = g.D.Disk.shows c.args.disk.now in
    let place = c.args.place.now in
    let body = c.args.body.now in
    let settled = c.in_ok-shut.ensures.settled ready in
    let has = body_done place c.requires.slot body c.requires.body old ready.next _ _ settled.size
    (c.in_ok-shut.ensures.shut ready) (rw c.from-gate.ensures at (c.in_ok-write_through.ensures.written settled)) in
    let settled_now = c.in_ok-write_through.ensures.settled settled in
    on_ok_weaker c.write_through-2.result (open_done place c.requires.slot body c.requires.body old ready.next _ _ settled_now.size has)
    (rw c.from-gate.ensures at (c.write_through-2.ensures.written settled_now))
