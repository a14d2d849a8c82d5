use Rattle.gen_recording.proofs.Names.{◌≡◌, ◌++◌, List, map, take, lines_at, round_at, Call, Plan, call_by, IsAt}
use Rattle.gen_recording.proofs.recorder.Recorder.take_lines.Given as goal

-- the first lines became calls
abbrev pub invariant-loop-i : goal.invariant-loop-i
invariant-loop-i l =
    let lines = lines_at l.caller (round_at l.trace.rounds l.round) in
    record {
      at : (before : List Plan) (calls : List Call) → IsAt l.config before calls l.initial.self
          → IsAt l.config before (calls ++ map (call_by l.caller) (take l.i lines)) l.self;
      tick : l.self.tick ≡ l.initial.self.tick;
    }
