use Rattle.std.specs.Io.KnownBytes.{Keeps}
use Rattle.ids_outside.proofs.host_shelf.write_part.Given as goal

-- an interrupted write takes nothing
abbrev pub invariant-loop : goal.invariant-loop
invariant-loop g l = Keeps (g.W.Write.contents l.fn.to) (g.W.Write.contents l.to)
