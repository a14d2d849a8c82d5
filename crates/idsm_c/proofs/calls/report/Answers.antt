use Rattle.idsm_c.proofs.Names.{rules}
use Rattle.idsm_c.proofs.calls.report.Goals as goal

pub returns-in-Some : goal.returns-in-Some
returns-in-Some c =
    rw (← c.in-Some.ensures.was) (c.report-answer.result, c.report-answer.new.self, c.code-in-Some.ensures, search rules, rw c.deref_mut.ensures.value at c.report-answer.ensures.told)
