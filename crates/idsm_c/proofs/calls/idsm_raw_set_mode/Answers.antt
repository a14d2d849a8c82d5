use Rattle.idsm_c.proofs.Names.{rules}
use Rattle.idsm_c.proofs.calls.idsm_raw_set_mode.Goals as goal

pub returns-in-Some-take : goal.returns-in-Some-take
returns-in-Some-take c =
    rw (← c.in-Some.ensures, ← c.in-Some-take.ensures.was) (c.set_mode-answer.result, c.set_mode-answer.new.self, c.code-in-Some-take.ensures, search rules, rw c.deref_mut.ensures.value at c.set_mode-answer.ensures.told)
