use Rattle.memory_store.proofs.SlotLemmas.{Result, ⊤, DiskFailed, OnOk, Ok, Err, ◌≡◌, length, ap₂, part, sym, ap, subst, ◌∙◌, arith, IsTrue, Run, bytes_of, goes_on_with, read_leaves, read_gives, synced_read}
use Rattle.memory_store.proofs.store.read_slots.Goals as goal

pub returns-in_err-read-clause-any_moment : goal.returns-in_err-read-clause-any_moment
returns-in_err-read-clause-any_moment g c tells =
    synced_read _ _ _ c.sync.result 0 c.read.new.out c.read.result (c.sync.ensures.syncs tells) (c.read.ensures.reads (rw c.sync.ensures.tells tells))

pub returns-clause-any_moment : goal.returns-clause-any_moment
returns-clause-any_moment g c tells =
    let tells_mid = subst IsTrue (sym c.sync.ensures.tells) tells in
    let first = synced_read _ _ _ c.sync.result 0 c.read.new.out c.read.result (c.sync.ensures.syncs tells) (c.read.ensures.reads tells_mid) in
    goes_on_with _ _ _ _ first
    (read_leaves _ _ _ 270864 c.read-2.new.out c.read-2.result first.now (c.read-2.ensures.reads (rw c.read.ensures.tells tells_mid)))

pub returns-clause-first : goal.returns-clause-first
returns-clause-first g c tells =
    let reads = c.in_ok-read.ensures.reads (subst IsTrue (sym c.sync.ensures.tells) tells) in
    let size : length c.read.new.out ≡ 270861 = omega arith in
    elim c.read-2.result as (λ (r : Result ⊤ DiskFailed). OnOk r (c.read.new.out ≡ part 0 270861 (bytes_of (g.D.Disk.shows c.args.disk.now))))
    [ Ok done ↦ reads.1 ∙ ap₂ (part 0) size (ap (λ (run : Run). run.now.contents) (c.in_ok-sync.ensures.syncs tells).0) | Err failed ↦ tt ]

pub returns-clause-second : goal.returns-clause-second
returns-clause-second g c tells =
    let tells_mid = subst IsTrue (sym c.sync.ensures.tells) tells in
    read_gives (g.D.Disk.shows c.read.new.self).run _ 270864 270861 c.read-2.new.out (bytes_of (g.D.Disk.shows c.args.disk.now)) c.read-2.result
    (c.read-2.ensures.reads (rw c.read.ensures.tells tells_mid))
    (ap (λ (run : Run). run.now.contents) (c.in_ok-read.ensures.reads tells_mid).0
    ∙ ap (λ (run : Run). run.now.contents) (c.in_ok-sync.ensures.syncs tells).0) (omega arith)
