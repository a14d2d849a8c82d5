use Rattle.frame_auth.proofs.Names.{arith, common_steps, err_from_is_err_and}
use Rattle.frame_auth.proofs.IntoLemmas.{counted_more, counted_stops, counted_all}
use Rattle.frame_auth.proofs.sealing.sealed_len.Goals as goal

pub loop-rest-preserved : goal.loop-rest-preserved
loop-rest-preserved c = counted_more _ _ _ _ _ c.loop-rest.invariant c.in_ok-rest.ensures.plain c.saturating_add-len.ensures

pub returns-in_err-rest-clause-stops : goal.returns-in_err-rest-clause-stops
returns-in_err-rest-clause-stops c =
    let told = err_from_is_err_and c.from_residual.result c.from_residual.ensures.1 in
    rw (told.1, told.2) (counted_stops _ _ _ _ c.loop-rest.invariant (grind (arith, common_steps)) c.in_err-rest.ensures.stops)

pub returns-clause-len : goal.returns-clause-len
returns-clause-len c = counted_all _ _ _ c.loop-rest.invariant (grind (arith, common_steps))
