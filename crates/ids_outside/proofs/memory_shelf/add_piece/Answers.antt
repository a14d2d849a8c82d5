use Rattle.std.proofs.Common.{rules, sym}
use Rattle.ids_outside.proofs.MemoryFilesLemmas.{changes_from_growth}
use Rattle.ids_outside.proofs.memory_shelf.add_piece.Goals as goal

-- what was written through the loan stands at the name
pub returns-in-Some : goal.returns-in-Some
returns-in-Some c =
    changes_from_growth c.extend_from_slice.result c.args.name.now c.args.piece.now c.args.files.now
    (c.get_mut.follows.lender c.extend_from_slice.new.self) c.in-Some.bytes.now
    c.extend_from_slice.new.self (sym c.in-Some.ensures.value)
    ((c.get_mut.follows.holds c.extend_from_slice.new.self).3 (search rules)) c.extend_from_slice.ensures.items
