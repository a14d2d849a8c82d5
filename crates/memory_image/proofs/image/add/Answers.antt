use Rattle.memory_image.proofs.ImageLemmas.{◌≤◌, ◌∷◌, refl, ◌∙◌, arith, stored, plain_row, begins, had_place, record_made, stored_rows}
use Rattle.memory_image.proofs.image.add.Goals as goal

pub returns-then-len-before : goal.returns-then-len-before
returns-then-len-before c items stands place =
    let row = plain_row c.args.row.now in
    let item = stored row.first row.key row.occurrences row.stamp row.context in
    let old = c.args.memory.now in
    let small : row.occurrences ≤ 65535 = omega (arith, c.requires.occurrences) in
    let rows = stored_rows item old c.store.new.self items small stands (c.store.ensures.stands items stands) c.store.ensures.room in
    grind (arith, rows, begins item row old refl place)

pub returns : goal.returns
returns c items stands =
    let row = plain_row c.args.row.now in
    let item = stored row.first row.key row.occurrences row.stamp row.context in
    let last = stored row.last row.key 0 row.stamp row.context in
    let old = c.args.memory.now in
    let mid = c.store.new.self in
    let small : row.occurrences ≤ 65535 = omega (arith, c.requires.occurrences) in
    let first_stands = c.store.ensures.stands items stands in
    let rows = stored_rows item old mid items small stands first_stands c.store.ensures.room in
    let now_stands = c.store-2.ensures.stands (item ∷ items) first_stands in
    let now = stored_rows last mid c.store-2.new.self (item ∷ items) (omega arith) first_stands now_stands c.store-2.ensures.room in
    let place = had_place item row old items refl stands (λ same. grind (arith, rows, same)) in
    record {
      place = place;
      room = c.store-2.ensures.room ∙ c.store.ensures.room;
      rows = grind (arith, now, rows, begins item row old refl place, record_made row old.rows mid.room small);
      items = last ∷ item ∷ items;
      stands = now_stands;
    }
