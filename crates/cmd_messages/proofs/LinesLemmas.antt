-- Messages are printed one by one: those in front were, and the others are left.
use Rattle.cmd_steps.proofs.Names.{AreMessages, Err, FitsMessage, Front, List, MessageParts, Ok, [], append-nil, arith, common_steps, decoded_text, drop, false, flat_map-append, joined, length, length-append, line_feed, message_line, messages_read, refl, true, ℕ, ◌++◌, ◌-◌, ◌==◌, ◌∙◌, ◌∷◌, ◌≡◌}
use Rattle.std.proofs.lemmas.List.Elements.{All-drop}
use Rattle.ids_frame.specs.{IsByte, AreBytes, CauseOf}
use Rattle.ids_frame.specs.declared.fault.FrameFault.{FrameFault}
use Rattle.ids_frame.proofs.MessagesLemmas.{read_is_held}
use Rattle.text_spec.proofs.TraceFacts.{all_append}
use Rattle.text_spec.proofs.WordsLemmas.{text_of-map}

-- these lines were printed, and these bytes are left
pub record ArePrinted (bytes rest lines : List ℕ) : Type 0 where
  pub front : List MessageParts
  pub fit : AreMessages front
  pub whole : bytes ≡ joined front ++ rest
  pub are_bytes : AreBytes rest
  pub printed : lines ≡ decoded_text front

-- then one more
pub more_printed : (bytes rest lines now : List ℕ) (m : MessageParts) (size : ℕ) → ArePrinted bytes rest lines → Front rest m size
    → now ≡ lines ++ (message_line m ++ line_feed ∷ []) → ArePrinted bytes (drop size rest) now
more_printed bytes rest lines now m size so front put = record {
  front = so.front ++ m ∷ [];
  fit = all_append FitsMessage so.front (m ∷ []) so.fit (front.begins.fits, tt);
  whole = grind (arith, common_steps, so.whole, front.begins.whole, flat_map-append);
  are_bytes = All-drop IsByte size rest so.are_bytes;
  printed = rw (put, so.printed, text_of-map message_line so.front (m ∷ [])) refl;
}

-- where nothing is left all are printed
pub all_printed : (bytes rest lines : List ℕ) → AreBytes bytes → ArePrinted bytes rest lines → (length rest == 0) ≡ true
    → (messages : List MessageParts) × (messages_read bytes ≡ Ok messages) × (lines ≡ decoded_text messages)
all_printed bytes [] lines are_bytes so none =
    (so.front, (read_is_held bytes (Ok so.front) are_bytes).1 (record { fit = so.fit; whole = so.whole ∙ append-nil (joined so.front) }), so.printed)
all_printed bytes (next ∷ rest) lines are_bytes so none = grind (arith, none)

-- where none can be read the messages stop
pub printing_stops : (bytes rest lines : List ℕ) (fault : FrameFault) → AreBytes bytes → ArePrinted bytes rest lines → (length rest == 0) ≡ false → CauseOf fault rest
    → messages_read bytes ≡ Err (record { at = length bytes - length rest; fault = fault })
printing_stops bytes [] lines fault are_bytes so some cause = absurd (cc some)
printing_stops bytes (next ∷ rest) lines fault are_bytes so some cause =
    let place : length bytes - length (next ∷ rest) ≡ length (joined so.front) = rw so.whole (grind (arith, length-append (joined so.front) (next ∷ rest))) in
    (read_is_held bytes (Err (record { at = length bytes - length (next ∷ rest); fault = fault })) are_bytes).1
    (record { front = so.front; fit = so.fit; next = next; rest = rest; whole = so.whole; place = place; cause = cause })
