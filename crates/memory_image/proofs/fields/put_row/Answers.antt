use Rattle.memory_image.proofs.ImageLemmas.{[], ◌∷◌, length, to_be_bytes, w16, w64, flag_of, number_of, appended}
use Rattle.memory_image.proofs.fields.put_row.Goals as goal

pub returns-clause-items : goal.returns-clause-items
returns-clause-items c =
    let row = c.args.row.now in
    cc (appended c.args.out.now.items (to_be_bytes w16 row.key.event.0) (to_be_bytes w16 row.key.id) (row.key.sensor ∷ [])
    (to_be_bytes w16 row.occurrences) (to_be_bytes w64 row.first) (to_be_bytes w64 row.last)
    (flag_of row.stamp ∷ to_be_bytes w64 (number_of row.stamp)) (to_be_bytes w16 (length row.context.now)) row.context.now)
