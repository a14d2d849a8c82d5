use Rattle.std.proofs.Common.{ℕ, List, arith, subst}
use Rattle.std.proofs.KnownBytes.{Consumes-trans}
use Rattle.std.proofs.lemmas.Grind.{common_steps, same_number_lists}
use Rattle.std.proofs.lemmas.List.{places}
use Rattle.std.specs.Io.KnownBytes.{Consumes}
use Rattle.memory_disk.proofs.host_disk.fill.Goals as goal

pub loop-filled-preserved : goal.loop-filled-preserved
loop-filled-preserved g c = record {
  within = grind (arith, common_steps, c.in_ok-count.ensures.bound);
  taken = subst (λ (bytes : List ℕ). Consumes (g.I.Read.remaining c.args.from.now) (g.I.Read.remaining c.read_part.new.from) bytes)
      (same_number_lists _ _ (grind (arith, common_steps, places)) (λ k h. grind (arith, common_steps, places)))
      (Consumes-trans _ _ _ _ _ c.loop-filled.invariant.taken c.in_ok-count.ensures.bytes.0);
}
