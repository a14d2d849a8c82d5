use Rattle.idsm_api.proofs.Names.{refl}
use Rattle.idsm_api.proofs.role.Role.turn.Goals as goal

pub returns-in-Turns-clause-told : goal.returns-in-Turns-clause-told
returns-in-Turns-clause-told c = rw c.in-Turns.is (c.turn.new.self, refl, c.turn.ensures.told, c.turn.ensures.numbers)
