use Rattle.cmd_steps.proofs.Names.{Err, Ok, are_bytes, arith, decode_tells, refl, sym, take_rest, ◌∙◌}
use Rattle.cmd_messages.proofs.LinesLemmas.{all_printed, more_printed, printing_stops}
use Rattle.cmd_messages.proofs.decode.lines_of.Goals as goal

pub slice_bounds-rest-count : goal.slice_bounds-rest-count
slice_bounds-rest-count c = (decode_tells _ (Ok _) c.loop-rest.invariant.are_bytes c.in-Ok.ensures).few

pub slice_bounds-rest-start : goal.slice_bounds-rest-start
slice_bounds-rest-start c = (decode_tells _ (Ok _) c.loop-rest.invariant.are_bytes c.in-Ok.ensures).few

pub loop-rest-preserved : goal.loop-rest-preserved
loop-rest-preserved c =
    let so = c.loop-rest.invariant in
    let front = decode_tells _ (Ok (c.in-Ok.message, c.in-Ok.size)) so.are_bytes c.in-Ok.ensures in
    rw (take_rest c.loop-rest.rest.now c.in-Ok.size) (more_printed _ _ _ _ c.in-Ok.message c.in-Ok.size so front c.in_ok-push_message-in-Ok.ensures.ok)

pub returns-in-Err : goal.returns-in-Err
returns-in-Err c =
    let so = c.loop-rest.invariant in
    let cause = decode_tells _ (Err c.in-Err.fault) so.are_bytes c.in-Err.ensures in
    rw (printing_stops _ _ _ c.in-Err.fault (are_bytes c.args.bytes.now c.type_inv.bytes) so (sym c.is_empty.ensures ∙ c.loop-rest-test.true) cause) refl

pub returns : goal.returns
returns c =
    let none = sym c.is_empty.ensures ∙ c.loop-rest-test.false in
    grind (arith, all_printed _ _ _ (are_bytes c.args.bytes.now c.type_inv.bytes) c.loop-rest.invariant none)
