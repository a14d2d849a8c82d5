-- A manager without its log is the one that it was.
use Rattle.main_function.proofs.Names.{Buffer, IsManagerOf, Manager, Parts, Shared, Stands, Turn, List, ℕ, arith, without_log}

module _ {C L : Type 0} {m : Manager C L} where
  pub mine_without : {events : C → ℕ} {kept : C → List Buffer} {shared : Shared} → IsManagerOf events kept shared m → IsManagerOf events kept shared (without_log m)
  mine_without mine = grind (arith, mine)

  pub stands_without : {stands : C → Parts → List Turn → Type 0} {config : Parts} {turns : List Turn} → Stands stands config m turns
      → Stands stands config (without_log m) turns
  stands_without is = grind (arith, is)
