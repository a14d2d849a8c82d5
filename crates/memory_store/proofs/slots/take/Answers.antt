use Rattle.memory_store.proofs.SlotLemmas.{subst, arith, KeptIs}
use Rattle.memory_store.proofs.slots.take.Goals as goal
use Rattle.memory_store.proofs.slots.take.Goals.{then-not-is_whole-via-then-not-is_whole, then-not-is_whole-via-else-not-is_whole+then-not-restore}

pub returns-then-not-is_whole : goal.returns-then-not-is_whole
returns-then-not-is_whole c first second is = record {
  none = λ sequence rows keeps.
      let of = subst (λ one. KeptIs one sequence rows) is.holds keeps in
      grind (arith, of, c.then-not-is_whole.branch);
  is_chosen = is.is;
}
