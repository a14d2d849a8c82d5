-- What a capture tells of its messages, and what a line of JSON tells: its members are what stands between its commas.
use Rattle.message_export.proofs.Names.{◌≡◌, ◌<◌, ◌≤◌, ◌^◌, ◌++◌, ◌∷◌, [], ℕ, List, length, map, take, drop, refl, ap, arith, MessageParts, FitsMessage, AreMessages, spelling, w32, from_be_bytes, to_be_bytes, AllByRecursion, common_steps, append_cancel_left, drop_at, length-take, take_all, take_at, ◌+◌, ◌==◌, Bool, true, not, Option, Some, get_or, sym, ◌∙◌, AreBytes, ContextPart, FitsContext, w64, join_with_byte, list_all, slice_split, append_cancel_right, get_or_past, IfSome, decimal, codes, if◌then◌else◌, exported_pcap, kept, packet, packets, time_after, told_of, Time, byte_members, comma, context_members, signature_members, stamp_members, form_word, hexadecimal, json_line, members, or_null, quoted, rules, one_message_lem, Told, None, seconds_of, nanoseconds_of}
use Rattle.std.proofs.lemmas.Nat.{from_be_bytes-to_be_bytes_4}
use Rattle.std.specs.Char.{is_ascii_digit}
use Rattle.std.proofs.lemmas.Bool.{and_from, cases_lt}
use Rattle.std.proofs.lemmas.Fmt.{decimal_injective, digits_decimal}
use Rattle.std.proofs.lemmas.List.Folds.{list_all-append}
use Rattle.std.proofs.lemmas.Option.{same_Some}
use Rattle.ids_types.specs.declared.names.Stamp.{Stamp}
use Rattle.ids_frame.specs.declared.context.Form.{Form}
use Rattle.text_spec.specs.Below.{IsBytes, encode_lower}
use Rattle.text_spec.specs.{hex_in, is_lower_digit, stamp_in}
use Rattle.text_spec.proofs.HexadecimalLemmas.{hex_in-encode_lower, lower_text}
use Rattle.text_spec.proofs.NumbersLemmas.{own_digits}
use Rattle.text_spec.proofs.StampsLemmas.{IsBytes-high_first, stamp_again}
use Rattle.text_spec.proofs.WordsLemmas.{Pass, split_joined, weaker}

-- ---- the length of a message is told in four bytes

-- a message has fewer bytes than that
pub fits_32 : (m : MessageParts) → FitsMessage m → length (spelling m) < 2 ^ 32
fits_32 m fits = grind (arith, common_steps)

-- ---- packets tell

-- texts whose first parts are as long have the same parts
same_parts : (a b c d : List ℕ) → length a ≡ length b → a ++ c ≡ b ++ d → (a ≡ b) × (c ≡ d)
same_parts a b c d len e = grind (arith, common_steps, take_at a c (length a), take_at b d (length a), drop_at a c (length a), drop_at b d (length a))

-- what one packet tells, and those after it
one_tells : (t u : Time) (m n : MessageParts) (behind others : List ℕ) → FitsMessage m → FitsMessage n
    → packet t (spelling m) ++ behind ≡ packet u (spelling n) ++ others
    → (length (spelling m) ≡ length (spelling n)) × (kept (spelling m) ≡ kept (spelling n)) × (behind ≡ others)
one_tells t u m n behind others fit fits e =
    let numbers : from_be_bytes w32 (to_be_bytes w32 (length (spelling m))) ≡ from_be_bytes w32 (to_be_bytes w32 (length (spelling n))) =
    ap (λ l. from_be_bytes w32 (take 4 (drop 12 l))) e in
    let len : length (spelling m) ≡ length (spelling n) =
    cc (numbers, from_be_bytes-to_be_bytes_4 _ (fits_32 m fit), from_be_bytes-to_be_bytes_4 _ (fits_32 n fits)) in
    let kept_len : length (kept (spelling m)) ≡ length (kept (spelling n)) = cc (len, length-take 262144 (spelling m), length-take 262144 (spelling n)) in
    let parts = same_parts (kept (spelling m)) (kept (spelling n)) behind others kept_len (ap (drop 16) e) in
    (len, parts.0, parts.1)

all_tell : (t u : Time) (messages others : List MessageParts) → AreMessages messages → AreMessages others
    → packets t messages ≡ packets u others → map told_of messages ≡ map told_of others
all_tell t u [] [] fit fits e = refl
all_tell t u (m ∷ messages) (n ∷ others) fit fits e =
    let now = time_after t m.stamp in
    let later = time_after u n.stamp in
    let one = one_tells now later m n (packets now messages) (packets later others) fit.0 fits.0 e in
    cc (one.0, one.1, all_tell now later messages others fit.1 fits.1 one.2)
all_tell t u messages others fit fits e = absurd (omega (arith, ap (λ l. length (take 1 l)) e))

pub told_lem : (messages others : List MessageParts) → AreMessages messages → AreMessages others
    → exported_pcap messages ≡ exported_pcap others → map told_of messages ≡ map told_of others
told_lem messages others fit fits e = grind (arith, common_steps, all_tell, append_cancel_left)

-- ---- messages that are kept whole

one_short : (m n : MessageParts) → FitsMessage m → FitsMessage n → length (spelling m) ≤ 262144
    → length (spelling m) ≡ length (spelling n) → kept (spelling m) ≡ kept (spelling n) → m ≡ n
one_short m n fit fits short len same =
    (one_message_lem m n [] [] fit fits (cc (take_all 262144 (spelling m) short, same, take_all 262144 (spelling n) (omega (arith, len, short))))).0

all_short : (messages others : List MessageParts) → AreMessages messages → AreMessages others
    → AllByRecursion (λ m. length (spelling m) ≤ 262144) messages
    → map told_of messages ≡ map told_of others → messages ≡ others
all_short [] [] fit fits short e = refl
all_short (m ∷ messages) (n ∷ others) fit fits short e =
    let first : told_of m ≡ told_of n = cc e in
    let one = one_short m n fit.0 fits.0 short.0 (ap (λ (told : Told). told.len) first) (ap (λ (told : Told). told.bytes) first) in
    cc (one, all_short messages others fit.1 fits.1 short.1 (cc e))
all_short messages others fit fits short e = absurd (cc e)

pub short_lem : (messages others : List MessageParts) → AreMessages messages → AreMessages others
    → AllByRecursion (λ m. length (spelling m) ≤ 262144) messages
    → exported_pcap messages ≡ exported_pcap others → messages ≡ others
short_lem messages others fit fits short e = all_short messages others fit fits short (told_lem messages others fit fits e)

-- ---- no value has a comma

-- whether a byte is no comma
abbrev is_plain : ℕ → Bool
is_plain c = not (c == comma)

-- a text without a comma
abbrev Plain : List ℕ → Type 0
Plain text = list_all is_plain text ≡ true

plain_number : (n : ℕ) → n < 2 ^ 64 → Plain (decimal n)
plain_number n small = weaker is_ascii_digit is_plain (decimal n) (λ b digit. grind (arith, digit)) (digits_decimal own_digits n small)

is_bytes : (bytes : List ℕ) → AreBytes bytes → IsBytes bytes
is_bytes bytes are i = grind (arith, common_steps, cases_lt, get_or_past)

plain_quoted : (text : List ℕ) → Plain text → Plain (quoted text)
plain_quoted text plain = list_all-append is_plain text (34 ∷ []) ∙ and_from _ _ plain refl

plain_hex : (bytes : List ℕ) → IsBytes bytes → Plain (hexadecimal bytes)
plain_hex bytes are =
    plain_quoted (encode_lower bytes) (weaker is_lower_digit is_plain (encode_lower bytes) (λ b digit. grind (arith, digit)) (lower_text bytes are))

plain_byte : (version byte : ℕ) → byte < 2 ^ 64 → Pass is_plain (byte_members version byte)
plain_byte version byte small = grind (arith, common_steps, plain_number)

plain_stamp : (stamp : Option Stamp) → Pass is_plain (stamp_members stamp)
plain_stamp None = (refl, (refl, (refl, tt)))
plain_stamp (Some s) =
    (plain_hex _ (IsBytes-high_first 8 s.0), (plain_number (seconds_of s) (omega arith), (plain_number (nanoseconds_of s) (omega arith), tt)))

plain_form : (form : Form) → Plain (quoted (form_word form))
plain_form form = grind (arith, common_steps)

plain_context : (context : Option ContextPart) → IfSome context FitsContext → Pass is_plain (context_members context)
plain_context None fits = (refl, (refl, tt))
plain_context (Some c) fits = (plain_form c.form, (plain_hex c.bytes (is_bytes c.bytes fits.bytes), tt))

plain_signature : (signature : Option (List ℕ)) → IfSome signature AreBytes → Pass is_plain (signature_members signature)
plain_signature None fits = (refl, tt)
plain_signature (Some bytes) fits = (plain_hex bytes (is_bytes bytes fits), tt)

plain_members : (at : ℕ) (m : MessageParts) → at < 2 ^ 64 → FitsMessage m → Pass is_plain (members at m)
plain_members at m small fits = grind (arith, common_steps, plain_byte, plain_context, plain_signature, plain_number, plain_stamp)

-- so a line is cut into its members again
same_members : (at place : ℕ) (m n : MessageParts) → at < 2 ^ 64 → place < 2 ^ 64 → FitsMessage m → FitsMessage n
    → json_line at m ≡ json_line place n → members at m ≡ members place n
same_members at place m n small few fit fits e =
    let body = append_cancel_right (join_with_byte comma (members at m)) (join_with_byte comma (members place n)) (codes "}") (ap (drop 1) e) in
    sym (split_joined is_plain comma _ _ refl (plain_members at m small fit)) ∙ ap (slice_split (λ b. b == comma)) body
    ∙ split_joined is_plain comma _ _ refl (plain_members place n few fits)

-- ---- each value tells its part

hex_tells : (a b : List ℕ) → IsBytes a → IsBytes b → hexadecimal a ≡ hexadecimal b → a ≡ b
hex_tells a b all are e =
    let text = append_cancel_right (encode_lower a) (encode_lower b) (34 ∷ []) (ap (drop 1) e) in
    same_Some a b (sym (hex_in-encode_lower a all) ∙ ap hex_in text ∙ hex_in-encode_lower b are)

byte_tells : (b c : Bool) (x y : ℕ) → b ≡ c → x < 2 ^ 64 → y < 2 ^ 64
    → (if b then codes "null" else decimal x) ≡ (if c then codes "null" else decimal y)
    → (if b then decimal x else codes "null") ≡ (if c then decimal y else codes "null") → x ≡ y
byte_tells b c x y same small few plain other = grind (arith, common_steps, decimal_injective)

stamp_tells : (s t : Option Stamp) → IfSome s (λ s. s.0 < 2 ^ 64) → IfSome t (λ s. s.0 < 2 ^ 64)
    → or_null (λ s. hexadecimal (to_be_bytes w64 s.0)) s ≡ or_null (λ s. hexadecimal (to_be_bytes w64 s.0)) t → s ≡ t
stamp_tells (Some s) (Some t) small few e =
    let text = append_cancel_right (encode_lower (to_be_bytes w64 s.0)) (encode_lower (to_be_bytes w64 t.0)) (34 ∷ []) (ap (drop 1) e) in
    same_Some (Some s) (Some t) (sym (stamp_again (Some s) small) ∙ ap stamp_in text ∙ stamp_again (Some t) few)
stamp_tells s t small few e = grind (arith, common_steps)

form_tells : (f g : Form) → quoted (form_word f) ≡ quoted (form_word g) → f ≡ g
form_tells f g e = grind (arith, common_steps)

context_tells : (c d : Option ContextPart) → IfSome c FitsContext → IfSome d FitsContext
    → or_null (λ c. quoted (form_word c.form)) c ≡ or_null (λ c. quoted (form_word c.form)) d
    → or_null (λ c. hexadecimal c.bytes) c ≡ or_null (λ c. hexadecimal c.bytes) d → c ≡ d
context_tells (Some c) (Some d) fit fits form bytes = search (rules, hex_tells, is_bytes, form_tells)
context_tells c d fit fits form bytes = grind (arith, common_steps)

signature_tells : (s t : Option (List ℕ)) → IfSome s AreBytes → IfSome t AreBytes
    → or_null hexadecimal s ≡ or_null hexadecimal t → s ≡ t
signature_tells (Some s) (Some t) fit fits e = ap Some (hex_tells s t (is_bytes s fit) (is_bytes t fits) e)
signature_tells s t fit fits e = grind (arith, common_steps)

pub line_lem : (at place : ℕ) (m n : MessageParts) → at < 2 ^ 64 → place < 2 ^ 64 → FitsMessage m → FitsMessage n
    → json_line at m ≡ json_line place n → (at ≡ place) × (m ≡ n)
line_lem at place m n small few fit fits e =
    let same = same_members at place m n small few fit fits e in
    let value : ℕ → ℕ → List (List ℕ) → List ℕ = λ name i members. drop (name + 3) (get_or members i []) in
    let version = decimal_injective m.version n.version (omega (arith, fit)) (omega (arith, fits)) (ap (value 7 1) same) in
    let instance = decimal_injective m.instance n.instance (omega (arith, fit)) (omega (arith, fits)) (ap (value 8 2) same) in
    let sensor = decimal_injective m.sensor n.sensor (omega (arith, fit)) (omega (arith, fits)) (ap (value 6 3) same) in
    let event = decimal_injective m.event n.event (omega (arith, fit)) (omega (arith, fits)) (ap (value 5 4) same) in
    let count = decimal_injective m.count n.count (omega (arith, fit)) (omega (arith, fits)) (ap (value 5 5) same) in
    let byte = byte_tells (m.version == 2) (n.version == 2) m.reserved n.reserved (ap (λ v. v == 2) version) (omega (arith, fit)) (omega (arith, fits)) (ap (value 8 6) same)
    (ap (value 15 7) same) in
    let stamp = stamp_tells m.stamp n.stamp fit.stamp fits.stamp (ap (value 9 8) same) in
    let context = context_tells m.context n.context fit.context fits.context (ap (value 12 11) same) (ap (value 7 12) same) in
    let signature = signature_tells m.signature n.signature fit.signature fits.signature (ap (value 9 13) same) in
    (decimal_injective at place small few (ap (value 6 0) same), grind (arith, version, instance, sensor, event, count, byte, stamp, context, signature))
