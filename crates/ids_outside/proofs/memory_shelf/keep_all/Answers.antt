use Rattle.std.proofs.Common.{append_assoc}
use Rattle.ids_outside.specs.Bodies.{files_in}
use Rattle.ids_outside.proofs.MemoryFilesLemmas.{given_files_step}
use Rattle.ids_outside.proofs.memory_shelf.keep_all.Goals as goal

-- the file that came next was kept
pub loop-name-preserved : goal.loop-name-preserved
loop-name-preserved c = record {
  kept = given_files_step c.loop-name.yielded (c.in-Some.name, c.in-Some.bytes) (files_in c.loop-name.kept) (files_in c.keep.new.files)
      c.loop-name.invariant.kept c.in_ok-keep.ensures.ok;
  split = rw (append_assoc, ← c.in-Some.ensures.steps.0) c.loop-name.invariant.split;
}
