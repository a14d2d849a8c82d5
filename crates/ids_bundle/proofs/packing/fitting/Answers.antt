use Rattle.ids_bundle.proofs.Names.{refl, are_bytes, decode_tells}
use Rattle.ids_bundle.proofs.UnitLemmas.{long}
use Rattle.ids_bundle.proofs.packing.fitting.Goals as goal

pub returns-in-Ok-clause-begins : goal.returns-in-Ok-clause-begins
returns-in-Ok-clause-begins c = long (decode_tells _ _ (are_bytes _ c.type_inv.bytes) c.in-Ok.ensures)

pub returns-in-Ok-2-clause-stops : goal.returns-in-Ok-2-clause-stops
returns-in-Ok-2-clause-stops c = (refl, (c.in-Ok.len, long (decode_tells _ _ (are_bytes _ c.type_inv.bytes) c.in-Ok.ensures), c.if-len-size.false))

pub returns-in-Err-clause-stops : goal.returns-in-Err-clause-stops
returns-in-Err-clause-stops c = (refl, decode_tells _ _ (are_bytes _ c.type_inv.bytes) c.in-Err.ensures)
