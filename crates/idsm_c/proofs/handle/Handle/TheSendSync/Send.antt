-- What a handle has may go to another thread, as a box of a role may.
use Rattle.idsm_c.proofs.Names.{full_share, lone, Ptr, block_ptr, null_ptr, shape, IsFit, held, fields, to, exits_of}
use mir.Raw.{raw}
use base.Shift.{Keyless}
use denote.Param.Send.{IsSend, AllSend, owning_send, part_keyless, struct_send, sendable}
use Rattle.std.proofs.Crossing.{frees}
use Rattle.std_alloc.proofs.SendSync.{quiet}
use Rattle.idsm_api.specs.contracts.role.Role as role
use Rattle.idsm_api.proofs.role.Role.TheSendSync.{the_send as role_send}
use Rattle.idsm_c.specs.contracts.handle.Handle.{the_row, the_type}
use Rattle.idsm_c.proofs.Handles.{Content}

held_keyless : (p : Ptr) (c : Content) → Keyless (held role.the_row IsFit p c)
held_keyless null_ptr c = tt
held_keyless (block_ptr b o) c = ((λ _. tt), λ s. (tt, ((λ _. tt), (part_keyless role.the_row role_send full_share s.1 b o, frees.frees s.0 (raw (lone (role.the_row).mir)) (block_ptr b o)))))

pub send : IsSend the_row
send =
    let all : AllSend (fields the_type) = (search sendable, tt) in
    owning_send the_type all (λ d. held_keyless d.at d.content)
    (λ k. quiet (to the_type) (exits_of k (fields the_type)) ((struct_send (shape the_type) all).leaving k))
