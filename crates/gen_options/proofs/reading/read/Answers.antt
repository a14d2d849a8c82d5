use Rattle.std.proofs.Common.{◌∙◌}
use Rattle.gen_options.proofs.ReadingLemmas.{words_refused, words_taken}
use Rattle.gen_options.proofs.reading.read.Goals as goal

pub returns-in-Ok-clause-given : goal.returns-in-Ok-clause-given
returns-in-Ok-clause-given c =
    c.given.ensures.given ∙ words_taken _ _ c.in_ok-command.ensures _ c.in-Ok.ensures.kinds c.in-Ok.ensures.matches

pub returns-clause-given : goal.returns-clause-given
returns-clause-given c =
    words_refused _ _ c.in_ok-command.ensures c.in-Err.refusal
    (λ same. c.in_default.not-OutOfMemory (c.kind.ensures ∙ same)) c.in-Err.ensures.kinds
