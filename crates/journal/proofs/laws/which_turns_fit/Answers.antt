use Rattle.journal.proofs.FittingLemmas.{beginnings_fit, turns_in_range_fit}
use Rattle.journal.proofs.laws.which_turns_fit.Goals as goal

pub returns : goal.returns
returns c = record { beginnings = beginnings_fit; in_range = turns_in_range_fit }
