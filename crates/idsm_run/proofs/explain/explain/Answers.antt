use Rattle.cmd_steps.proofs.Names.{Recorded, arith, does, explain, gives, only_said, reading_of, recording, refl}
use Rattle.chain_endings.specs.ExplainedText.{explained_text}
use Rattle.cmd_steps.proofs.MadeLemmas.{work_said}
use Rattle.idsm_run.proofs.TaskLemmas.{come, unread}
use Rattle.idsm_run.proofs.explain.explain.Goals as goal

pub returns-in_err-inputs : goal.returns-in_err-inputs
unfolding reading_of
returns-in_err-inputs g c =
    let next = λ (own : Recorded). gives (does (only_said (explained_text own.config own.told))) in
    unread _ (explain (recording c.args.names)) _ _ next refl _ _ c.from_residual.ensures.1 c.in_err-inputs.ensures.reads

pub returns : goal.returns
unfolding reading_of
returns g c =
    let names = recording c.args.names in
    let task = λ (own : Recorded). does (only_said (explained_text own.config own.told)) in
    work_said (explain names) _ c.in_ok-text.text.items _ _ _ (come _ (explain names) _ _ task refl _ c.in_ok-inputs.ensures.reads) refl refl
    (grind (arith, c.in_ok-text.ensures, c.deref.ensures.value))
