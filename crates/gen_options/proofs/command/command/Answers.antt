use Rattle.std.proofs.Common.{ap₂, ◌∙◌}
use Rattle.std.proofs.lemmas.Result.{IfOk-weaker}
use Rattle.clap.specs.Words.{with_rule}
use Rattle.gen_options.proofs.command.command.Goals as goal

-- each argument comes after those before it
pub returns : goal.returns
returns c =
    let start = c.in_ok-arg.ensures.shape c.number.ensures.local ∙ ap₂ with_rule c.new.ensures.app c.number.ensures.rule in
    let callers = c.in_ok-arg-2.ensures.shape c.number-2.ensures.local ∙ ap₂ with_rule start c.number-2.ensures.rule in
    let rounds = c.in_ok-arg-3.ensures.shape c.number-3.ensures.local ∙ ap₂ with_rule callers c.number-3.ensures.rule in
    let events = c.in_ok-arg-4.ensures.shape c.number-4.ensures.local ∙ ap₂ with_rule rounds c.number-4.ensures.rule in
    let config = c.in_ok-arg-5.ensures.shape c.name.ensures.local ∙ ap₂ with_rule events c.name.ensures.rule in
    let trace = c.in_ok-arg-6.ensures.shape c.name-2.ensures.local ∙ ap₂ with_rule config c.name-2.ensures.rule in
    IfOk-weaker c.arg-7.result _ _
    (λ command adds. adds.shape c.name-3.ensures.local ∙ ap₂ with_rule trace c.name-3.ensures.rule)
    c.arg-7.ensures
