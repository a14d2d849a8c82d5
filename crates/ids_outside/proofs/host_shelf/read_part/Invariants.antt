use Rattle.std.specs.Io.KnownBytes.{Keeps}
use Rattle.ids_outside.proofs.host_shelf.read_part.Given as goal

-- an interrupted read takes nothing
abbrev pub invariant-loop : goal.invariant-loop
invariant-loop g l = Keeps (g.I.Read.remaining l.fn.from) (g.I.Read.remaining l.from)
