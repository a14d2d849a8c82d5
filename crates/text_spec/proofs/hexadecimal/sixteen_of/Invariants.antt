use Rattle.text_spec.proofs.Names.{◌≡◌, ◌*◌, ◌++◌, length, take, drop, encode_lower}
use Rattle.text_spec.proofs.hexadecimal.sixteen_of.Given as goal

-- the digits so far, and the text of the bytes that are left, are the text
abbrev pub invariant-loop-i : goal.invariant-loop-i
invariant-loop-i l = record {
  text : take (2 * l.i) l.digits ++ encode_lower (drop l.i l.bytes) ≡ encode_lower l.bytes;
  len : length l.digits ≡ 16;
}
