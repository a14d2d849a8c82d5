use Rattle.memory_store.proofs.SlotLemmas.{reverse, inl, ap, subst, ◌∙◌, arith, IsTrue, bytes_of, no_call, settled_leaves, slot_in, either_rows, keeps_saved, place_after, saved_kept}
use Rattle.memory_store.proofs.store.Store.save.Goals as goal

pub returns-then-self-eq-LAST_SEQUENCE-clause-any_moment : goal.returns-then-self-eq-LAST_SEQUENCE-clause-any_moment
returns-then-self-eq-LAST_SEQUENCE-clause-any_moment g c =
    rw (← c.self.view_is) (λ tells was keeps. no_call _ _ (settled_leaves _ _ (c.self.invariant.ready tells).settled.synced (inl keeps)))

pub returns-in_default-clause-any_moment : goal.returns-in_default-clause-any_moment
returns-in_default-clause-any_moment g c =
    rw (← c.self.view_is) (λ tells was keeps.
    either_rows (g.D.Disk.shows c.self.inside.disk) (g.D.Disk.shows c.put_slot.new.disk) _ _ was _ (ap slot_in c.deref.ensures.value ∙ c.encode.ensures.says)
    c.requires (omega (arith, c.self.invariant.few, c.if-self-eq-LAST_SEQUENCE.false)) keeps (c.put_slot.ensures.any_moment (c.self.invariant.ready tells)))

pub returns-clause-any_moment : goal.returns-clause-any_moment
returns-clause-any_moment g c =
    rw (← c.self.view_is) (λ tells was keeps.
    either_rows (g.D.Disk.shows c.self.inside.disk) (g.D.Disk.shows c.put_slot.new.disk) _ _ was _ (ap slot_in c.deref.ensures.value ∙ c.encode.ensures.says)
    c.requires (omega (arith, c.self.invariant.few, c.if-self-eq-LAST_SEQUENCE.false)) keeps (c.put_slot.ensures.any_moment (c.self.invariant.ready tells)))

pub invariant_of-result : goal.invariant_of-result
invariant_of-result g c =
    record {
      low = rw c.after_save.ensures (omega arith);
      few = rw c.after_save.ensures (omega (arith, c.self.invariant.few, c.if-self-eq-LAST_SEQUENCE.false));
      room = omega (arith, c.encode.ensures.capacity, c.self.invariant.room);
      ready = λ tells.
          let ready = c.self.invariant.ready (subst IsTrue c.put_slot.ensures.tells tells) in
          record {
            settled = c.in-Ok.ensures.settled ready;
            next = rw c.after_save.ensures (place_after c.self.inside.place (bytes_of (g.D.Disk.shows c.self.inside.disk)) _ _ c.self.invariant.low
                ready.next (c.in-Ok.ensures.saved ready) (ap (λ slot. slot.sequence) (ap slot_in c.deref.ensures.value ∙ c.encode.ensures.says)));
          };
    }

pub returns-clause-saved : goal.returns-clause-saved
returns-clause-saved g c =
    rw (← c.self.view_is) (λ tells.
    let says = ap slot_in c.deref.ensures.value ∙ c.encode.ensures.says in
    let ready = c.self.invariant.ready tells in
    let kept = saved_kept c.self.inside.place (bytes_of (g.D.Disk.shows c.self.inside.disk)) _ _ c.self.invariant.low ready.next
    (c.in-Ok.ensures.saved ready) (ap (λ slot. slot.sequence) says) in
    settled_leaves _ _ (c.in-Ok.ensures.settled ready).synced (keeps_saved _ _ (reverse c.args.memory.now.rows) _ kept says (omega arith)
    (omega (arith, c.self.invariant.few, c.if-self-eq-LAST_SEQUENCE.false)) c.requires))
