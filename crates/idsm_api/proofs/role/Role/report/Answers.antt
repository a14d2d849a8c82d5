use Rattle.idsm_api.proofs.Names.{refl}
use Rattle.idsm_api.proofs.role.Role.report.Goals as goal

pub returns-in-Calls-clause-told : goal.returns-in-Calls-clause-told
returns-in-Calls-clause-told c = rw c.in-Calls.is (c.report.new.self, refl, c.report.ensures.told)
