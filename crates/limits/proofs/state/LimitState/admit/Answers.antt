use Rattle.limits.proofs.MeterLemmas.{answers, stands_with}
use Rattle.limits.proofs.state.LimitState.admit.Goals as goal

pub returns-clause-answer : goal.returns-clause-answer
returns-clause-answer c = λ config before stands by.
    rw c.ask.ensures.answer (answers before _ by config c.args.self.now stands)

pub returns-clause-stands : goal.returns-clause-stands
returns-clause-stands c = λ config before stands by.
    rw c.ask.ensures.after (stands_with before _ by config c.args.self.now stands)
