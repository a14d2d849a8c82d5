-- The law is `rings_have`.
use Rattle.law_closing.proofs.ClosedLemmas.{rings_have}
use Rattle.law_closing.proofs.laws.rings_have_their_givers_numbers.Goals as goal

pub returns : goal.returns
returns c = rings_have
