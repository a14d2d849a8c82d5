-- Messages are exported one by one: those in front were, and the others are left. And pieces of a line, one after another.
use Rattle.message_export.proofs.Names.{◌≡◌, ◌+◌, ◌-◌, ◌<◌, ◌==◌, ◌∷◌, ◌++◌, ℕ, List, [], Ok, Err, arith, false, true, length, drop, refl, sym, ap, ◌∙◌, append_assoc, IsByte, AreBytes, MessageParts, IsJoined, joined, AreMessages, messages_read, spelling, CauseOf, line_feed, common_steps, append-nil, length-append, nil_from_length, Front, codes, join_with_byte, flat_map-append, no_time, packet, packets, time_after, Time, json_line, json_lines, comma, continued, object, read_of, capture_front}
use Rattle.std.proofs.lemmas.List.Elements.{All-drop}
use Rattle.ids_frame.specs.declared.fault.FrameFault.{FrameFault}
use Rattle.ids_frame.proofs.MessagesLemmas.{IsLeft, read_is_held, stops}
use Rattle.message_export.specs.Exported.{exported, front_of, piece}
use Rattle.message_export.specs.declared.exporting.Format.{Format}
use Rattle.message_export.specs.declared.exporting.Format.TheVariants.{Json, Pcap}

-- ---- one message more

-- the time of the last packet of messages, after one of this time
abbrev pub latest : Time → List MessageParts → Time
latest time [] = time
latest time (m ∷ messages) = latest (time_after time m.stamp) messages

-- a line after others
lines_more : (at : ℕ) (front : List MessageParts) (m : MessageParts)
    → json_lines at (front ++ m ∷ []) ≡ json_lines at front ++ (json_line (at + length (joined front)) m ++ line_feed ∷ [])
lines_more at [] m = grind (arith, common_steps)
lines_more at (x ∷ front) m = grind (arith, common_steps, append_assoc, lines_more (at + length (spelling x)) front m)

-- a packet after others
packets_more : (time : Time) (front : List MessageParts) (m : MessageParts)
    → packets time (front ++ m ∷ []) ≡ packets time front ++ packet (time_after (latest time front) m.stamp) (spelling m)
packets_more time [] m = append-nil _
packets_more time (x ∷ front) m =
    let now = time_after time x.stamp in
    ap (λ l. packet now (spelling x) ++ l) (packets_more now front m)
    ∙ sym (append_assoc (packet now (spelling x)) (packets now front) _)

-- what tells a message after others
exported_more : (format : Format) (front : List MessageParts) (m : MessageParts)
    → exported format (front ++ m ∷ [])
    ≡ exported format front ++ piece format (length (joined front)) (time_after (latest no_time front) m.stamp) m
exported_more Json front m = grind (arith, common_steps, lines_more 0 front m)
exported_more Pcap front m =
    ap (λ l. capture_front ++ l) (packets_more no_time front m) ∙ sym (append_assoc capture_front (packets no_time front) _)

-- and the time after them
latest_more : (time : Time) (front : List MessageParts) (m : MessageParts)
    → latest time (front ++ m ∷ []) ≡ time_after (latest time front) m.stamp
latest_more time [] m = refl
latest_more time (x ∷ front) m = latest_more (time_after time x.stamp) front m

-- ---- the loop

-- these messages were exported, and these bytes are left
pub record Stands (format : Format) (bytes rest out : List ℕ) (time : Time) (front : List MessageParts) : Type 0 where
  pub fit : AreMessages front
  pub whole : bytes ≡ joined front ++ rest
  pub are_bytes : AreBytes rest
  pub clock : time ≡ latest no_time front
  pub put : out ≡ exported format front

-- some were
pub record ArePut (format : Format) (bytes rest out : List ℕ) (time : Time) : Type 0 where
  pub front : List MessageParts
  pub stands : Stands format bytes rest out time front

-- at first none
pub none_put : (format : Format) (bytes out : List ℕ) → AreBytes bytes → out ≡ front_of format → ArePut format bytes bytes out no_time
none_put format bytes out fits begun = record { front = []; stands = grind (arith, common_steps, append-nil) }

-- then one more
pub more_put : (format : Format) (bytes rest behind out now : List ℕ) (time later : Time) (m : MessageParts) (size : ℕ)
    → ArePut format bytes rest out time → Front rest m size → behind ≡ drop size rest → later ≡ time_after time m.stamp
    → now ≡ out ++ piece format (length bytes - length rest) later m
    → ArePut format bytes behind now later
more_put format bytes rest behind out now time later m size so front cut clock put = record {
  front = so.front ++ m ∷ [];
  stands = grind (arith, common_steps, All-drop IsByte size rest, latest_more no_time so.front m, exported_more format so.front m);
}

-- which leaves fewer bytes
pub fewer_left : (rest behind : List ℕ) (m : MessageParts) (size : ℕ) → Front rest m size → behind ≡ drop size rest → length behind < length rest
fewer_left rest behind m size front cut =
    omega (arith, ap (λ l. length l) front.begins.whole, ap (λ l. length l) cut, length-append (drop 1 (spelling m)) (drop size rest))

-- where nothing is left all are
pub all_put : (format : Format) (bytes rest out : List ℕ) (time : Time) → AreBytes bytes → ArePut format bytes rest out time
    → (length rest == 0) ≡ true
    → (messages : List MessageParts) × (messages_read bytes ≡ Ok messages) × (out ≡ exported format messages)
all_put format bytes rest out time are so none =
    let joins : IsJoined bytes so.front = grind (arith, common_steps, append-nil, nil_from_length rest, so.stands) in
    (so.front, (read_is_held bytes (Ok so.front) are).1 joins, so.stands.put)

-- where none can be read the messages stop
pub putting_stops : (format : Format) (bytes rest out : List ℕ) (time : Time) (fault : FrameFault) → AreBytes bytes
    → ArePut format bytes rest out time → (length rest == 0) ≡ false → CauseOf fault rest
    → messages_read bytes ≡ Err (record { at = length bytes - length rest; fault = fault })
putting_stops format bytes rest out time fault are so some cause =
    let left : IsLeft bytes rest = record { front = so.front; fit = so.stands.fit; whole = so.stands.whole; are_bytes = so.stands.are_bytes } in
    stops bytes rest fault left some (read_of rest (Err fault) so.stands.are_bytes cause)

-- ---- pieces of a line that are put one after another

-- five pieces
pub five_put : (out a b c d e : List ℕ) → ((((out ++ a) ++ b) ++ c) ++ d) ++ e ≡ out ++ (a ++ (b ++ (c ++ (d ++ (e ++ [])))))
five_put out a b c d e = simp (append_assoc, append-nil)

-- the first member, and those after it
joined_continued : (first : List ℕ) (rest : List (List ℕ)) → join_with_byte comma (first ∷ rest) ≡ first ++ continued rest
joined_continued first [] = sym (append-nil first)
joined_continued first (next ∷ rest) = grind (arith, common_steps, joined_continued next rest)

-- the line of an object, put member by member
seven_put : (out a b c d e f g : List ℕ)
    → ((((((out ++ a) ++ b) ++ c) ++ d) ++ e) ++ f) ++ g ≡ out ++ ((((((a ++ b) ++ c) ++ d) ++ e) ++ f) ++ g)
seven_put out a b c d e f g = simp append_assoc

pub object_put : (out first : List ℕ) (a b c d e : List (List ℕ))
    → ((((((out ++ 123 ∷ first) ++ continued a) ++ continued b) ++ continued c) ++ continued d) ++ continued e) ++ 125 ∷ 10 ∷ []
    ≡ out ++ (object (first ∷ (a ++ (b ++ (c ++ (d ++ e))))) ++ line_feed ∷ [])
object_put out first a b c d e =
    seven_put out (123 ∷ first) (continued a) (continued b) (continued c) (continued d) (continued e) (125 ∷ 10 ∷ []) ∙ ap (λ l. out ++ l)
    (sym (ap (λ l. (codes "{" ++ l ++ codes "}") ++ line_feed ∷ []) (joined_continued first (a ++ (b ++ (c ++ (d ++ e)))))
    ∙ simp (flat_map-append, append_assoc)))
