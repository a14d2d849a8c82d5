use Rattle.std.proofs.Common.{◌≡◌, ◌++◌}
use Rattle.std.specs.Vec.Iter.{into_iter_items}
use Rattle.ids_outside.specs.{SameFiles, given_files, files_in}
use Rattle.ids_outside.proofs.memory_shelf.keep_all.Given as goal

-- the map keeps the files that were inserted, and the others are still to come
abbrev pub invariant-loop-name : goal.invariant-loop-name
invariant-loop-name l = record {
  kept : SameFiles (given_files l.yielded) (files_in l.kept);
  split : l.yielded ++ into_iter_items l.name-iterator ≡ l.fn.files.items;
}
