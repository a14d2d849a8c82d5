use Rattle.event_chain.proofs.Names.{arith, refl, stands_beside}
use Rattle.event_chain.proofs.WayLemmas.{behind_silent}
use Rattle.event_chain.proofs.way.Way.enter.Goals as goal

pub returns-in-Report-clause-behind : goal.returns-in-Report-clause-behind
returns-in-Report-clause-behind g c config start moments behind =
    let came = c.take.ensures.behind config start moments behind in
    grind (arith, came, c.in-Report.is, c.take_kept.ensures.took)

pub returns-in-State-clause-behind : goal.returns-in-State-clause-behind
returns-in-State-clause-behind g c config start moments behind =
    rw c.in-State.is (behind_silent behind g.met.W.Witness.silent _ refl (λ e. tt) (c.set_state.ensures.stands config moments behind.at.gate)
    (stands_beside config moments _ _ _ (λ e. refl) behind.at.windows))

pub returns-in-SetMode-clause-behind : goal.returns-in-SetMode-clause-behind
returns-in-SetMode-clause-behind g c config start moments behind =
    rw c.in-SetMode.is (behind_silent behind g.met.W.Witness.silent _ refl (λ e. tt) (c.set_mode.ensures.stands config moments behind.at.gate)
    (stands_beside config moments _ _ _ (λ e. refl) behind.at.windows))
