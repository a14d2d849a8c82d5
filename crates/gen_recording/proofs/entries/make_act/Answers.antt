use Rattle.gen_recording.proofs.entries.make_act.Goals as goal

pub returns-in_ok-context-in-Report-clause-claims : goal.returns-in_ok-context-in-Report-clause-claims
returns-in_ok-context-in-Report-clause-claims c past caller are =
    rw c.in-Report.is (c.in_ok-context-in-Report.ensures.claims past caller c.in-Report.event c.in-Report.count c.in-Report.stamp are)
