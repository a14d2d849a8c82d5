use Rattle.ids_bundle.proofs.UnitLemmas.{unit_known}
use Rattle.ids_bundle.proofs.Names.{are_bytes, take_rest}
use Rattle.ids_bundle.proofs.unit.is_unit.Goals as goal

pub returns-clause-unit : goal.returns-clause-unit
returns-clause-unit c =
    unit_known _ _ _ _ _ (are_bytes _ c.type_inv.bytes) c.in-len4-up.len_at_least c.from_be_bytes.ensures c.from_be_bytes-2.ensures (take_rest _ 4) c.is_body.ensures
