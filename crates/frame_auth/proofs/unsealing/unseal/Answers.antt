use Rattle.frame_auth.proofs.Names.{sym, ◌∙◌, StopsUnseal, err_from_is_err_and}
use Rattle.frame_auth.proofs.LayoutLemmas.{goes_on, writes_plain, writes_sealed, stops_here}
use Rattle.frame_auth.proofs.unsealing.unseal.Goals as goal

pub loop-rest-preserved : goal.loop-rest-preserved
loop-rest-preserved c = goes_on (writes_sealed c.args.key.now) writes_plain c.loop-rest.invariant c.in_ok-rest.ensures.found

pub returns-in_err-rest-clause-place : goal.returns-in_err-rest-clause-place
returns-in_err-rest-clause-place c =
    let told = err_from_is_err_and c.from_residual.result c.from_residual.ensures.1 in
    rw (told.1, told.2) (stops_here (λ fault due at l. StopsUnseal c.args.key.now due fault at l) c.loop-rest.invariant
    (sym c.is_empty.ensures ∙ c.loop-rest-test.true) c.in_err-rest.ensures.place)
