use Rattle.idsm_api.proofs.Names.{refl}
use Rattle.idsm_api.proofs.role.Role.set_state.Goals as goal

pub returns-in-Calls-clause-told : goal.returns-in-Calls-clause-told
returns-in-Calls-clause-told c = rw c.in-Calls.is (c.set_state.new.self, refl, c.set_state.ensures.told)
