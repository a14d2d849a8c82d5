use Rattle.event_memory.proofs.Names.{◌≡◌, length}
use Rattle.event_memory.proofs.memory.Memory.make.Given as goal

-- as many slots as there were rounds
abbrev pub invariant-loop : goal.invariant-loop
invariant-loop l = length l.slots.items ≡ l.counter
