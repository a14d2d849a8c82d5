use Rattle.report_api.proofs.Names.{◌≡◌, length, vec_capacity}
use Rattle.report_api.proofs.making.boxes.Given as goal

abbrev pub invariant-loop : goal.invariant-loop
invariant-loop l = (length l.boxes.items ≡ l.counter) × (vec_capacity l.boxes ≡ l.n)
