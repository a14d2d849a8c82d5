use Rattle.idsm_c.proofs.Names.{rules}
use Rattle.idsm_c.proofs.turning.idsm_raw_main.Goals as goal

pub returns-in-Some : goal.returns-in-Some
returns-in-Some c =
    rw (← c.in-Some.ensures.was) (c.turn-turned.result, c.turn-turned.new.self, c.code-in-Some.ensures, c.sent_of-in-Some.ensures, search rules, rw c.deref_mut.ensures.value at c.turn-turned.ensures.told)
