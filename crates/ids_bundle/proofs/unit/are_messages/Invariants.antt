use Rattle.ids_bundle.proofs.Names.{◌-◌, ◌↔◌, AreBytes, AreSoMany}
use Rattle.ids_bundle.proofs.unit.are_messages.Given as goal

-- those that are left are so many fewer
abbrev pub invariant-loop : goal.invariant-loop
invariant-loop l = record {
  fewer : AreSoMany l.number l.bytes ↔ AreSoMany (l.number - l.counter) l.rest;
  are_bytes : AreBytes l.rest;
}
