use Rattle.gen_recording.proofs.Names.{refl, arith, lines_by, with_last-push}
use Rattle.gen_recording.proofs.DrawLemmas.{caller_more}
use Rattle.gen_recording.proofs.drawing.draw_round.Goals as goal

pub loop-caller-preserved : goal.loop-caller-preserved
loop-caller-preserved c =
    let o = c.args.options.now in
    let caller = c.loop-caller.caller in
    record {
      trace = rw (c.in_ok-draw_lines.ensures.trace, c.loop-caller.invariant.trace, with_last-push, caller_more (lines_by o c.args.round) o.callers caller (omega arith)) refl;
      number = c.in_ok-draw_lines.ensures.number;
    }
