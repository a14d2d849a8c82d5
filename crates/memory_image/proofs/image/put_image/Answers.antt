use Rattle.memory_image.proofs.ImageLemmas.{common_steps, reverse, arith, no_row, row_bytes, length-flat_map-take}
use Rattle.memory_image.proofs.image.put_image.Goals as goal

pub put_row-requires-clause-room : goal.put_row-requires-clause-room
put_row-requires-clause-room c =
    grind (arith, common_steps, length-flat_map-take row_bytes (reverse c.args.memory.now.rows) c.loop-i.i no_row)
