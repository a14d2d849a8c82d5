use Rattle.message_export.proofs.Names.{Ok, Err, inr, refl, sym, ap, ◌∙◌, are_bytes, decode_tells, time_after}
use Rattle.message_export.proofs.ExportLemmas.{all_put, fewer_left, more_put, none_put, putting_stops}
use Rattle.message_export.proofs.exporting.export.Goals as goal

pub loop-rest-init : goal.loop-rest-init
loop-rest-init c = none_put _ _ _ (are_bytes c.args.bytes.now c.type_inv.bytes) c.in_ok-out.ensures

pub split_at-requires : goal.split_at-requires
split_at-requires c = (decode_tells _ (Ok (c.in-Ok.message, c.in-Ok.size)) c.loop-rest.invariant.stands.are_bytes c.in-Ok.ensures).few

pub push_piece-requires : goal.push_piece-requires
push_piece-requires c =
    let front = decode_tells _ (Ok (c.in-Ok.message, c.in-Ok.size)) c.loop-rest.invariant.stands.are_bytes c.in-Ok.ensures in
    record { fits = front.begins.fits; spelled = c.split_at.ensures.front ∙ front.spelled }

pub loop-rest-preserved : goal.loop-rest-preserved
loop-rest-preserved c =
    let front = decode_tells _ (Ok (c.in-Ok.message, c.in-Ok.size)) c.loop-rest.invariant.stands.are_bytes c.in-Ok.ensures in
    more_put _ _ _ _ _ _ _ _ c.in-Ok.message c.in-Ok.size c.loop-rest.invariant front c.split_at.ensures.back
    (c.time_after-time.ensures ∙ ap (time_after c.loop-rest.time) c.stamp.ensures) c.in_ok-push_piece-in-Ok.ensures

pub loop-rest-smaller : goal.loop-rest-smaller
loop-rest-smaller c =
    let front = decode_tells _ (Ok (c.in-Ok.message, c.in-Ok.size)) c.loop-rest.invariant.stands.are_bytes c.in-Ok.ensures in
    fewer_left _ _ c.in-Ok.message c.in-Ok.size front c.split_at.ensures.back

pub returns-in-Err-clause-stops : goal.returns-in-Err-clause-stops
returns-in-Err-clause-stops c =
    let so = c.loop-rest.invariant in
    let cause = decode_tells _ (Err c.in-Err.fault) so.stands.are_bytes c.in-Err.ensures in
    inr (_, putting_stops _ _ _ _ _ c.in-Err.fault (are_bytes c.args.bytes.now c.type_inv.bytes) so (sym c.is_empty.ensures ∙ c.loop-rest-test.true) cause, refl)

pub returns-clause-found : goal.returns-clause-found
returns-clause-found c =
    all_put _ _ _ _ _ (are_bytes c.args.bytes.now c.type_inv.bytes) c.loop-rest.invariant (sym c.is_empty.ensures ∙ c.loop-rest-test.false)
