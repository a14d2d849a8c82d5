use Rattle.std.proofs.Common.{◌≡◌, ◌+◌, ◌≤◌, ◌++◌, length, map, vec_len, vec_capacity}
use Rattle.std.specs.List.{AllByRecursion}
use Rattle.ids_types.specs.Plain.{plain_entry}
use Rattle.ids_types.specs.Rows.{entry_of, EntryWithin}
use Rattle.ids_types.proofs.placing.put_rows.Given as goal

-- what is put and what is left is all, and there is room for what is left
abbrev pub invariant-loop-left : goal.invariant-loop-left
invariant-loop-left l = record {
  items : map plain_entry l.items.items ++ map (entry_of l.fn.numbers l.fn.bytes) l.left ≡
      map plain_entry l.initial.items.items ++ map (entry_of l.fn.numbers l.fn.bytes) l.initial.left;
  room : vec_len l.items + length l.left ≤ vec_capacity l.items;
  capacity : vec_capacity l.items ≡ vec_capacity l.initial.items;
  within : AllByRecursion (EntryWithin l.fn.numbers (length l.fn.bytes)) l.left;
}

abbrev pub decreases-loop-left : goal.decreases-loop-left
decreases-loop-left l = length l.left
