use Rattle.gen_recording.proofs.Names.{◌≡◌, [], ◌∷◌, ◌++◌, reverse, take, drop, KeepUpFrom, last_tick, round_ticks, flat_map, plans_in, IsAt}
use Rattle.gen_recording.proofs.recorder.Recorder.take_all.Given as goal

-- the first rounds were taken
abbrev pub invariant-loop-round : goal.invariant-loop-round
invariant-loop-round l = record {
  at : IsAt l.config (reverse (flat_map plans_in (take l.round l.trace.rounds))) [] l.self;
  last : l.self.tick ≡ last_tick (take l.round l.trace.rounds);
  ticks : KeepUpFrom l.self.tick (flat_map round_ticks (drop l.round l.trace.rounds) ++ last_tick l.trace.rounds ∷ []);
}
