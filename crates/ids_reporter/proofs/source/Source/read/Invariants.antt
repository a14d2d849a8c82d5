use Rattle.ids_reporter.proofs.Names.{◌≡◌, List, ◌++◌, length, MessageParts, messages_of, IsIndexOf}
use Rattle.ids_reporter.proofs.source.Source.read.Given as goal

-- the index is that of the messages before those that are left
abbrev pub invariant-loop-message : goal.invariant-loop-message
invariant-loop-message l = (front : List MessageParts) × (messages_of l.fn.bytes.items ≡ front ++ l.messages) × IsIndexOf l.index front

abbrev pub decreases-loop-message : goal.decreases-loop-message
decreases-loop-message l = length l.messages
