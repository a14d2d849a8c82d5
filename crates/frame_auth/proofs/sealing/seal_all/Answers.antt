use Rattle.frame_auth.proofs.Names.{arith, common_steps}
use Rattle.ids_frame.proofs.DecodeLemmas.{are_bytes}
use Rattle.frame_auth.proofs.IntoLemmas.{sealing_begins, sealing_reads, sealing_room, sealing_more, sealing_ends}
use Rattle.frame_auth.proofs.sealing.seal_all.Goals as goal

pub loop-rest-init : goal.loop-rest-init
loop-rest-init c = sealing_begins _ _ _ _ _ c.requires.room.1 c.requires.room.2 (omega arith)

pub unreachable-requires : goal.unreachable-requires
unreachable-requires c =
    sealing_reads _ _ (are_bytes _ c.type_inv.messages) c.loop-rest.invariant (grind (arith, common_steps)) c.in_default.ensures.bad

pub write_sealed-end-requires-clause-room : goal.write_sealed-end-requires-clause-room
write_sealed-end-requires-clause-room c =
    omega (arith, sealing_room _ _ _ c.loop-rest.invariant c.in-Ok.ensures.begins c.in-Ok.ensures.spelled, c.loop-rest.auto.buffer)

pub loop-rest-preserved : goal.loop-rest-preserved
loop-rest-preserved c =
    sealing_more _ _ _ _ _ c.loop-rest.invariant c.in-Ok.ensures.begins c.in-Ok.ensures.spelled c.write_sealed-end.ensures

pub returns : goal.returns
returns c = sealing_ends _ _ _ _ _ _ _ _ c.loop-rest.invariant (grind (arith, common_steps)) c.requires.start
