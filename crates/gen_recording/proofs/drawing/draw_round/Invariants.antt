use Rattle.gen_recording.proofs.Names.{◌≡◌, ◌-◌, ◌++◌, ◌∷◌, [], map, replicate, range_with_len, number_after, draws_before, lines_by, tick_after, ticks_beside}
use Rattle.gen_recording.proofs.drawing.draw_round.Given as goal

-- the first callers' lines were drawn
abbrev pub invariant-loop-caller : goal.invariant-loop-caller
invariant-loop-caller l = record {
  trace : l.trace ≡ record {
    callers = l.fn.trace.callers;
    rounds = l.fn.trace.rounds ++ (record {
      beside = ticks_beside l.round;
      lines = map (lines_by l.options l.round) (range_with_len 0 l.caller) ++ replicate (l.options.callers - l.caller) [];
      after = tick_after l.round;
    }) ∷ [];
  };
  number : l.draws.number ≡ number_after l.options.start (draws_before l.options l.round l.caller);
}
