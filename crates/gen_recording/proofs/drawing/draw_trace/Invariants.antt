use Rattle.gen_recording.proofs.Names.{◌≡◌, ◌*◌, map, range_with_len, last_tick, number_after, draws_before, generated_round}
use Rattle.gen_recording.proofs.drawing.draw_trace.Given as goal

-- the first rounds were drawn
abbrev pub invariant-loop-round : goal.invariant-loop-round
invariant-loop-round l = record {
  trace : l.trace ≡ record { callers = l.options.callers; rounds = map (generated_round l.options) (range_with_len 0 l.round) };
  number : l.draws.number ≡ number_after l.options.start (draws_before l.options l.round 0);
  tick : last_tick l.trace.rounds ≡ 10 * l.round;
}
