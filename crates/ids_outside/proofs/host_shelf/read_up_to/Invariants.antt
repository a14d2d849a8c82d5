use Rattle.std.proofs.Common.{◌+◌, ◌-◌, vec_len}
use Rattle.std.specs.Io.KnownBytes.{Consumes}
use Rattle.ids_outside.proofs.host_shelf.read_up_to.Given as goal

-- the bytes so far are those that the reader has lost
abbrev pub invariant-loop-chunk : goal.invariant-loop-chunk
invariant-loop-chunk g l =
    Consumes (g.I.Read.remaining l.fn.from) (g.I.Read.remaining l.from) l.bytes.items

-- the bytes that may still come
abbrev pub decreases-loop-chunk : goal.decreases-loop-chunk
decreases-loop-chunk g l = l.limit + 1 - vec_len l.bytes
