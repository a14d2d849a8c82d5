use Rattle.text_spec.proofs.Names.{◌≡◌, ◌≤◌, ◌+◌, ◌*◌, ◌++◌, drop, encode_lower, vec_len, vec_capacity}
use Rattle.text_spec.proofs.hexadecimal.put_each.Given as goal

-- the text of all bytes before this one is written, and that of the others is left
abbrev pub invariant-loop-i : goal.invariant-loop-i
invariant-loop-i l = record {
  put : l.out.items ++ encode_lower (drop l.i l.bytes) ≡ l.fn.out.items ++ encode_lower l.bytes;
  len : vec_len l.out ≡ vec_len l.fn.out + 2 * l.i;
  capacity : vec_capacity l.fn.out ≤ vec_capacity l.out;
}
