use Rattle.ids_bundle.proofs.PackLemmas.{first_lem, one_first_lem}
use Rattle.ids_bundle.proofs.packing.first_of_packed.Goals as goal

pub returns : goal.returns
returns c = record { first = first_lem; one = one_first_lem }
