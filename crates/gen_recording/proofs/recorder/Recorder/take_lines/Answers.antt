use Rattle.gen_recording.proofs.Names.{◌<◌, length, ◌∙◌, append_assoc, arith, changes, common_steps, lines_at, round_at, call_by, map_more}
use Rattle.gen_recording.proofs.RecordingLemmas.{items_are}
use Rattle.gen_recording.proofs.recorder.Recorder.take_lines.Goals as goal

-- the line finds room
pub call-requires-clause-few : goal.call-requires-clause-few
call-requires-clause-few c =
    let start = c.requires.recording in
    let first = items_are _ _ _ _ start.at in
    let now = items_are _ _ _ _ (c.loop-i.invariant.at start.before start.calls start.at) in
    grind (arith, common_steps, first, now)

pub loop-i-preserved : goal.loop-i-preserved
loop-i-preserved c =
    let lines = lines_at c.args.caller (round_at c.args.trace.now.rounds c.args.round) in
    let there : c.loop-i.i < length lines = omega (arith, c.lines-i-end.ensures) in
    record {
      at = λ before calls start. rw (map_more (call_by c.args.caller) lines c.loop-i.i (changes 0))
          (rw (append_assoc, c.line.ensures) at (c.in_ok-call.ensures.at before _ (c.loop-i.invariant.at before calls start)));
      tick = c.in_ok-call.ensures.tick ∙ c.loop-i.invariant.tick;
    }
