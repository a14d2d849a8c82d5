use Rattle.event_memory.proofs.Names.{remove, ◌≡◌, ◌≤◌, ◌<◌, ◌∷◌, get_or, length, rules}
use Rattle.std.specs.Prelude.{vec_len}
use Rattle.event_memory.specs.{no_row, plain_item}
use Rattle.event_memory.proofs.PlaceLemmas.{added_held}
use Rattle.event_memory.proofs.memory.Memory.add.Goals as goal

pub returns : goal.returns
returns c =
    let slots = c.self.inside.slots in
    let now = c.bring_first.new.slots in
    let full : vec_len slots ≡ length slots.items = search rules in
    let brought : now ≡ get_or slots.items c.args.place no_row ∷ remove slots.items c.args.place = cc in
    let within : c.args.place < c.self.inside.used = search rules in
    let few : c.self.inside.used ≤ vec_len slots = search rules in
    let first = c.index_mut.result.now in
    rw (← c.self.view_is) (added_held (plain_item c.args.item.now) slots.items now (vec_len slots) c.self.inside.used c.args.place
    first c.add.new.self full few within brought c.index_mut.ensures.value c.add.ensures)
