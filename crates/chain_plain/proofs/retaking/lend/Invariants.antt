use Rattle.chain_plain.proofs.Names.{◌≡◌, map, take, vec_capacity, vec_len, entry_by, plain_entry}
use Rattle.chain_plain.proofs.retaking.lend.Given as goal

-- the first items are lent
abbrev pub invariant-loop-entry : goal.invariant-loop-entry
invariant-loop-entry g l = record {
  items : map plain_entry l.places.items ≡ map (entry_by g.B.Parcel.held) (take l.entry-index l.items);
  count : vec_len l.places ≡ l.entry-index;
  capacity : vec_capacity l.places ≡ vec_capacity l.fn.places;
}
