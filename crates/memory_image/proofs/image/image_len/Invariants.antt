use Rattle.memory_image.proofs.ImageLemmas.{◌≡◌, length, reverse, take, joined}
use Rattle.memory_image.proofs.image.image_len.Given as goal

-- the bytes of the records so far
abbrev pub invariant-loop-i : goal.invariant-loop-i
invariant-loop-i l = l.len ≡ length (joined (take l.i (reverse l.memory.rows)))
