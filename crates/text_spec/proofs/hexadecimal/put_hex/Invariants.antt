use Rattle.text_spec.proofs.Names.{◌≡◌, ◌≤◌, ◌+◌, ◌*◌, ◌++◌, drop, encode_lower, vec_len, vec_capacity}
use Rattle.text_spec.proofs.hexadecimal.put_hex.Given as goal

-- the text of so many eights of bytes is written, and that of the others is left
abbrev pub invariant-loop-k : goal.invariant-loop-k
invariant-loop-k l = record {
  put : l.out.items ++ encode_lower (drop (8 * l.k) l.bytes) ≡ l.fn.out.items ++ encode_lower l.bytes;
  len : vec_len l.out ≡ vec_len l.fn.out + 2 * (8 * l.k);
  capacity : vec_capacity l.fn.out ≤ vec_capacity l.out;
}
