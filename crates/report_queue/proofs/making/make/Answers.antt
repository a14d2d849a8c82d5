use Rattle.report_queue.proofs.MakingLemmas.{new_queue_is}
use Rattle.report_queue.proofs.making.make.Goals as goal

pub returns : goal.returns
returns g c =
    new_queue_is record { ring = c.in_ok-made.made.ring } c.args.n c.args.seats c.args.terms record { keeper = c.in_ok-made.made.keeper }
    c.in_ok-made.made.seats.items c.in_ok-seats.seats.items c.requires.seats.1 c.in_ok-made.ensures c.in_ok-seats.ensures
