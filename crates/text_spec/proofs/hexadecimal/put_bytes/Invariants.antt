use Rattle.text_spec.proofs.Names.{◌≡◌, ℕ, ◌<◌, ◌*◌, take, drop, slice_index, encode_lower}
use Rattle.text_spec.proofs.hexadecimal.put_bytes.Given as goal

-- the digits so far are the text of the front of the room, and the rest is as it was
abbrev pub invariant-loop-i : goal.invariant-loop-i
invariant-loop-i l = record {
  text : encode_lower (take l.i l.room) ≡ take (2 * l.i) l.digits;
  small : (k : ℕ) → k < l.i → slice_index l.room k < 256;
  rest : drop l.i l.room ≡ drop l.i l.initial.room;
}
