use Rattle.ids_bundle.proofs.Names.{rules}
use Rattle.ids_bundle.proofs.UnpackLemmas.{one_unpack_answer_lem, packed_fit}
use Rattle.ids_bundle.proofs.unpacking.unpacks_again.Goals as goal

pub returns : goal.returns
returns c = λ size bytes runs answer small packed unpacks. search (rules, one_unpack_answer_lem, packed_fit)
