use Rattle.memory_image.proofs.ImageLemmas.{◌≡◌, ◌++◌, List, length, reverse, Stored, Stands, AreKeepable, joined}
use Rattle.memory_image.proofs.image.restore.Given as goal

-- the image is that of the records so far, and the rest
abbrev pub invariant-loop-rest : goal.invariant-loop-rest
invariant-loop-rest l = record {
  room : l.memory.room ≡ 256;
  keepable : AreKeepable (reverse l.memory.rows);
  read : l.image ≡ joined (reverse l.memory.rows) ++ l.rest;
  stands : (items : List Stored) × Stands l.memory items;
}

abbrev pub decreases-loop-rest : goal.decreases-loop-rest
decreases-loop-rest l = length l.rest
