use Rattle.std.proofs.Common.{◌∙◌}
use Rattle.filter_threshold.proofs.CountLemmas.{arrives}
use Rattle.filter_threshold.proofs.thresholds.Thresholds.arrive.Goals as goal

pub returns-clause-passes : goal.returns-clause-passes
returns-clause-passes c = λ config items stands by.
    c.ask.ensures.passes ∙ (arrives _ items by config c.args.self.now c.requires stands).0

pub returns-clause-stands : goal.returns-clause-stands
returns-clause-stands c = λ config items stands by.
    rw c.ask.ensures.slots (arrives _ items by config c.args.self.now c.requires stands).1
