use Rattle.permit_ring.proofs.States.{ring_of}
use Rattle.permit_ring.proofs.laws.words_show_the_machine.Goals as goal

pub returns : goal.returns
returns g c = record { reached = g.r.rule.reached; words_are = g.r.rule.words_are; is_ring = ring_of g.r.rule }
