use Rattle.frame_auth.proofs.Names.{◌≡◌, ◌++◌, take, drop, masked}
use Rattle.frame_auth.proofs.key.taken_in.Given as goal

-- the bytes so far are combined with the mask
abbrev pub invariant-loop-byte : goal.invariant-loop-byte
invariant-loop-byte l = l.byte-items ≡ masked l.mask (take l.byte-index l.fn.block) ++ drop l.byte-index l.fn.block
