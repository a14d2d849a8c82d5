use Rattle.ids_reporter.proofs.Names.{◌<◌, ◌≤◌, ℕ, sym, ap, ◌∙◌, arith, length, get_or, IsBackIn, made_in, taken_in, Feeder, common_steps}
use Rattle.ids_reporter.proofs.RuleLemmas.{popped}
use Rattle.ids_reporter.proofs.drain.Drain.welcome_all.Goals as goal

pub loop-feeder-preserved : goal.loop-feeder-preserved
loop-feeder-preserved c =
    let was = c.loop-feeder.invariant in
    let all = c.args.feeders.items in
    let front = c.pop.new.self.items in
    let split = c.in-Some.ensures.items in
    let more = c.welcome.ensures.back in
    let last = popped front all c.in-Some.feeder (length c.loop-feeder.feeders.items) (sym split ∙ was.rest) in
    let back : (k : ℕ) (d : Feeder) → length front ≤ k → k < length all → IsBackIn c.welcome.new.self (get_or all k d) = λ k d le lt.
    grind (arith, common_steps, was.back k d, last.1 d, more, split) in
    record { mine = c.welcome.ensures.mine; made = ap made_in more ∙ was.made; taken = ap taken_in more ∙ was.taken; rest = last.0; back = back }

pub returns-clause-back : goal.returns-clause-back
returns-clause-back c k d lt = c.loop-feeder.invariant.back k d (omega (arith, c.in_default.ensures.cases, c.loop-feeder.feeders.ok)) lt
