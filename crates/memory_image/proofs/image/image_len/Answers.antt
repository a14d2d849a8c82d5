use Rattle.memory_image.proofs.ImageLemmas.{common_steps, reverse, arith, no_row, row_bytes, length-flat_map-take, length-all}
use Rattle.memory_image.proofs.image.image_len.Goals as goal

pub overflow_add-len-in-loop-i : goal.overflow_add-len-in-loop-i
overflow_add-len-in-loop-i c =
    let rows = reverse c.args.memory.now.rows in
    grind (arith, common_steps, length-flat_map-take row_bytes rows c.loop-i.i no_row, length-all rows c.requires.each)
