use Rattle.filter_chain.proofs.Names.{◌≡◌, ◌+◌, drop, bytes_in}
use Rattle.filter_chain.proofs.logging.context_bytes.Given as goal

-- the bytes so far are those of all entries but the others
abbrev pub invariant-loop-entry : goal.invariant-loop-entry
invariant-loop-entry g l = l.bytes + bytes_in g.B.Parcel.held (drop l.entry-index l.items) ≡ bytes_in g.B.Parcel.held l.items
