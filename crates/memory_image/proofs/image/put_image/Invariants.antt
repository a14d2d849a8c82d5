use Rattle.memory_image.proofs.ImageLemmas.{◌≡◌, ◌≤◌, ◌++◌, reverse, take, vec_capacity, joined}
use Rattle.memory_image.proofs.image.put_image.Given as goal

-- the records so far are after what was there
abbrev pub invariant-loop-i : goal.invariant-loop-i
invariant-loop-i l = record {
  items : l.out.items ≡ l.initial.out.items ++ joined (take l.i (reverse l.memory.rows));
  capacity : vec_capacity l.initial.out ≤ vec_capacity l.out;
}
