use Rattle.frame_auth.proofs.Names.{◌≡◌, arith, common_steps}
use Rattle.ids_frame.proofs.DecodeLemmas.{are_bytes}
use Rattle.frame_auth.proofs.IntoLemmas.{sealed_whole}
use Rattle.frame_auth.proofs.sealing.seal.Goals as goal

pub returns-clause-found : goal.returns-clause-found
returns-clause-found c =
    let is_len : c.resize.new.self.len ≡ c.in_ok-len.len = grind (arith, common_steps) in
    sealed_whole _ _ (are_bytes _ c.type_inv.messages) (c.in_ok-len.ensures.len _ _) (omega (arith, is_len)) c.seal_all.ensures (omega (arith, is_len)) is_len
