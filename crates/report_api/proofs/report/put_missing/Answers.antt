use Rattle.report_api.proofs.Names.{refl, arith, common_steps}
use Rattle.report_api.proofs.report.put_missing.Goals as goal

pub mark_lost_context-requires-clause-few : goal.mark_lost_context-requires-clause-few
mark_lost_context-requires-clause-few c lifetimes = grind (arith, common_steps, c.requires.few, c.put-ticket.ensures.told)

pub returns-clause-reported : goal.returns-clause-reported
returns-clause-reported c = rw c.replace.ensures.value (c.put-ticket.result, refl, c.put-ticket.ensures.ticket)

pub returns-clause-told : goal.returns-clause-told
returns-clause-told c = grind (arith, c.mark_lost_context.ensures.told, c.claimed.ensures, c.put-ticket.ensures.told)
