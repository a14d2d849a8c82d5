use Rattle.idsm_api.proofs.Names.{arith, reverse}
use Rattle.idsm_api.proofs.manager.Manager.mode.Goals as goal

pub returns : goal.returns
returns c = (
  omega (arith, c.requires.events_are, c.if-from-self.false, c.from.ensures),
  λ config turns is. (rw c.chain.ensures at c.mode.ensures) config (reverse turns) is.chain_stands,
)
