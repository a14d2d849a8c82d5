use Rattle.memory_store.proofs.SlotLemmas.{Err, reverse, subst, rules, arith, common_steps, IsTrue, found_on, tells_on}
use Rattle.memory_store.proofs.store.Store.begin.Goals as goal

pub invariant_of-result : goal.invariant_of-result
invariant_of-result g c = record {
  low = c.in-Ok-find.ensures.low;
  few = c.in-Ok-find.ensures.few;
  room = search rules;
  ready = λ now.
      let tells = subst IsTrue c.read_slots.ensures.tells now in
      let read = c.in-Ok-read_slots.ensures in
      let found = found_on _ _ c.deref.result.now c.deref-2.result.now _ _ (grind (arith, common_steps, read.first tells))
      (grind (arith, common_steps, read.second tells)) (read.same tells) c.in-Ok-find.ensures in
      record { settled = read.settled tells; next = found.0 };
}

pub returns-in-Ok-find-clause-keeps : goal.returns-in-Ok-find-clause-keeps
returns-in-Ok-find-clause-keeps g c tells =
    let read = c.in-Ok-read_slots.ensures in
    (found_on _ _ c.deref.result.now c.deref-2.result.now _ _ (grind (arith, common_steps, read.first tells))
    (grind (arith, common_steps, read.second tells)) (read.same tells) c.in-Ok-find.ensures).1

pub returns-in-Err-clause-answers : goal.returns-in-Err-clause-answers
returns-in-Err-clause-answers g c tells =
    let read = c.in-Ok-read_slots.ensures in
    tells_on _ c.deref.result.now c.deref-2.result.now (reverse c.find.new.memory.rows) (Err c.in-Err.slot)
    (grind (arith, common_steps, read.first tells)) (grind (arith, common_steps, read.second tells)) c.in-Err.ensures
