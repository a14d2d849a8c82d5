use Rattle.cmd_steps.proofs.Names.{arith, ended_ran, ran_others, words_starved}
use Rattle.idsm_run.proofs.run.run_plain.Goals as goal

pub returns-in-Some-perform-clause-ran : goal.returns-in-Some-perform-clause-ran
returns-in-Some-perform-clause-ran g c =
    grind (arith, ended_ran, c.in-Some.is, c.in-Ok.ensures.asked, c.in-Some-perform.ensures, c.tell.ensures)

pub returns-in-Some-perform-clause-others : goal.returns-in-Some-perform-clause-others
returns-in-Some-perform-clause-others g c = ran_others _ _ _ _ _ _ _ (returns-in-Some-perform-clause-ran g c)

-- the words of `gen` wanted memory
pub returns-in-Err-clause-ran : goal.returns-in-Err-clause-ran
returns-in-Err-clause-ran g c = words_starved _ _ _ _ _ _ c.in-Err.ensures.memory c.say.ensures
