-- The line of a decoded message.
use Rattle.text_spec.proofs.Names.{◌≡◌, ◌+◌, ◌<◌, ◌≤◌, length, length-append, arith, decimal, layout_word, message_line, shown_context, shown_signature, stamp_text, common_steps, ◌++◌, ℕ, List, append_assoc, Option, Stamp, None, Some, to_be_bytes, w64}
use Rattle.ids_frame.specs.Message.{MessageParts, FitsMessage}
use Rattle.text_spec.proofs.HexadecimalLemmas.{length_hex}
use Rattle.text_spec.proofs.NumbersLemmas.{few_digits}

-- the parts of a line
pub length_line : (m : MessageParts) → length (message_line m) ≡ 8 + length (layout_word m.version) + length (decimal m.instance) + length (decimal m.sensor) + length (decimal m.event) + length (decimal m.count)
    + length (decimal m.reserved) + length (stamp_text m.stamp) + length (shown_context m.context) + length (shown_signature m.signature)
length_line m = simp length-append (omega arith)

-- the words in front of the context and of the signature are short
pub few_in_front : (m : MessageParts) → FitsMessage m
    → length (message_line m) < 127 + length (shown_context m.context) + length (shown_signature m.signature)
few_in_front m fits = grind (arith, common_steps, length_line m, few_digits, fits, length_stamp m.stamp)
  where
    length_stamp : (stamp : Option Stamp) → length (stamp_text stamp) ≤ 16
    length_stamp None = omega arith
    length_stamp (Some stamp) = omega (arith, length_hex (to_be_bytes w64 stamp.0))

-- texts that are put one after another
pub texts_put : (before a b c d e f g h i j k l end : List ℕ)
    → ((((((((((((before ++ a) ++ b) ++ c) ++ d) ++ e) ++ f) ++ g) ++ h) ++ i) ++ j) ++ k) ++ l) ++ end
    ≡ before ++ ((a ++ (b ++ (c ++ (d ++ (e ++ (f ++ (g ++ (h ++ (i ++ (j ++ (k ++ l))))))))))) ++ end)
texts_put before a b c d e f g h i j k l end = simp append_assoc
