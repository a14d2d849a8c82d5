use Rattle.gen_recording.proofs.Names.{◌≡◌, ◌++◌, ◌∷◌, [], List, map, reverse, take, drop, KeepUpFrom, round_at, Plan, calls_from, idle, IsAt}
use Rattle.gen_recording.proofs.recorder.Recorder.take_round.Given as goal

-- the first turns beside the calls were made
abbrev pub invariant-loop-tick : goal.invariant-loop-tick
invariant-loop-tick l =
    let round = round_at l.trace.rounds l.round in
    record {
      at : (before : List Plan) → IsAt l.config before [] l.initial.self
          → IsAt l.config (reverse (map idle (take l.tick-index round.beside)) ++ before) [] l.self;
      ticks : KeepUpFrom l.self.tick (drop l.tick-index round.beside ++ round.after ∷ []);
    }

-- the first callers made their calls
abbrev pub invariant-loop-caller : goal.invariant-loop-caller
invariant-loop-caller l =
    let round = round_at l.trace.rounds l.round in
    record {
      at : (before : List Plan) → IsAt l.config before [] l.initial.self
          → IsAt l.config before (calls_from 0 (take l.caller round.lines)) l.self;
      tick : l.self.tick ≡ l.initial.self.tick;
    }
