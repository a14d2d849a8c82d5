use Rattle.idsm_c.proofs.Names.{rules}
use Rattle.idsm_c.proofs.calls.idsm_raw_set_state.Goals as goal

pub returns-in-Some : goal.returns-in-Some
returns-in-Some c =
    rw (← c.in-Some.ensures.was) (c.set_state-answer.result, c.set_state-answer.new.self, c.code-in-Some.ensures, search rules, rw c.deref_mut.ensures.value at c.set_state-answer.ensures.told)
