use Rattle.event_memory.proofs.Names.{◌≡◌, take, reverse}
use Rattle.text_spec.specs.MemoryText.{memory_text}
use Rattle.event_memory.proofs.memory.Memory.print.Given as goal

-- the first records have been printed
abbrev pub invariant-loop-i : goal.invariant-loop-i
invariant-loop-i l = l.text.items ≡ memory_text (take l.i (reverse l.self.rows))
