use Rattle.gen_recording.proofs.Names.{◌≡◌, add-one, ◌<◌, ◌≤◌, [], length, take_all, reverse-append, ◌∙◌, arith, on_ok_weaker, round_at, idle, drop_more, map_more}
use Rattle.gen_recording.proofs.RecordingLemmas.{callers_few, callers_more, items_are}
use Rattle.gen_recording.proofs.recorder.Recorder.take_round.Goals as goal

pub loop-tick-preserved : goal.loop-tick-preserved
loop-tick-preserved c =
    let ticks = (round_at c.args.trace.now.rounds c.args.round).beside in
    let i = c.loop-tick.tick-index in
    let is : c.beside-tick-items.result.now ≡ ticks = c.beside-tick-items.ensures in
    let there : i < length ticks = rw is at c.loop-tick-test.true in
    record {
      at = λ before start. rw (map_more idle ticks i 0, reverse-append)
          (rw is at (c.in_ok-turn.ensures.at _ [] (c.loop-tick.invariant.at before start)));
      ticks = rw (c.in_ok-turn.ensures.tick, is) (rw (drop_more ticks i 0) at c.loop-tick.invariant.ticks).1;
    }

-- the lines find room
pub take_lines-requires-clause-few : goal.take_lines-requires-clause-few
take_lines-requires-clause-few c =
    let start = c.requires.between in
    let some = items_are _ _ _ _ (c.loop-caller.invariant.at _ (c.loop-tick.invariant.at start.before start.at)) in
    omega (arith, some, callers_few 0 c.loop-caller.caller (round_at c.args.trace.now.rounds c.args.round).lines, c.requires.can.few)

pub loop-caller-preserved : goal.loop-caller-preserved
loop-caller-preserved c =
    let lines = (round_at c.args.trace.now.rounds c.args.round).lines in
    record {
      at = λ before start. rw (add-one, callers_more 0 c.loop-caller.caller c.loop-caller.caller lines (omega arith))
          (c.in_ok-take_lines.ensures.at before _ (c.loop-caller.invariant.at before start));
      tick = c.in_ok-take_lines.ensures.tick ∙ c.loop-caller.invariant.tick;
    }

pub returns-clause-at : goal.returns-clause-at
returns-clause-at c = on_ok_weaker c.turn-2.result (λ made before start.
    let round = round_at c.args.trace.now.rounds c.args.round in
    let all : length round.lines ≤ c.loop-caller.caller =
    omega (arith, c.loop-caller-test.false, c.callers-caller-end.ensures.callers, c.requires.callers, c.requires.can.callers) in
    let ticks : length round.beside ≤ c.loop-tick.tick-index = rw c.beside-tick-items.ensures at c.loop-tick-test.false in
    rw reverse-append (rw (c.after.ensures, take_all c.loop-caller.caller round.lines, take_all c.loop-tick.tick-index round.beside)
    at (made _ _ (c.loop-caller.invariant.at _ (c.loop-tick.invariant.at before start))))) c.turn-2.ensures.at
