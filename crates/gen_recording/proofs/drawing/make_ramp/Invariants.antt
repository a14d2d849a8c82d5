use Rattle.gen_recording.proofs.Names.{◌≡◌, map, range_with_len}
use Rattle.gen_recording.proofs.drawing.make_ramp.Given as goal

-- the bytes so far
abbrev pub invariant-loop-byte : goal.invariant-loop-byte
invariant-loop-byte l = l.bytes.items ≡ map (λ i. i) (range_with_len 0 l.byte)
