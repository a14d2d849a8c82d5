use Rattle.idsm_api.proofs.Names.{◌≡◌, ◌∙◌, ◌∷◌, [], arith, common_steps, ◌++◌, reverse, Caller, append_assoc, map_push, reverse-append}
use Rattle.idsm_api.specs.Making.{passes_of}
use Rattle.idsm_api.proofs.closing.take_passes.Goals as goal

pub loop-caller-preserved : goal.loop-caller-preserved
loop-caller-preserved c =
    let left = c.pop.new.self.items in
    let before = c.loop-caller.passes.items in
    let caller = c.in-Some.caller in
    let is : c.loop-caller.callers.items ≡ left ++ caller ∷ [] = rw c.in-Some.is at c.pop.ensures.items in
    let was = rw (is, map_push (λ (c : Caller). c.pass) left caller) at c.loop-caller.invariant.taken in
    record {
      taken = rw (c.push_reserved.ensures.items, reverse-append before (caller.pass ∷ []), ← append_assoc (passes_of left) (caller.pass ∷ []) (reverse before)) was;
      room = grind (arith, common_steps, is, c.loop-caller.invariant.room, c.push_reserved.ensures.items);
      kept = c.push_reserved.ensures.capacity ∙ c.loop-caller.invariant.kept;
    }
