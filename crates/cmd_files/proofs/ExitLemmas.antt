-- What a function answers that leaves early.
use Rattle.cmd_files.proofs.Names.{Err, IsErrAnd, Result, arith, ◌≡◌}

-- an exit with this fault has what this fault has
pub left_with : {T E : Type 0} (P : Result T E → Type 0) (answer : Result T E) (fault : E)
    → IsErrAnd answer (λ y. y ≡ fault) → P (Err fault) → P answer
left_with P answer fault left has = grind (arith, left, has)
