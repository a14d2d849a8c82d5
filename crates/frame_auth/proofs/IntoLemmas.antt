-- Sealing into a buffer: messages are counted first, and then written one by one.
use Rattle.frame_auth.proofs.Names.{◌≡◌, ℕ, ◌+◌, ◌-◌, ◌*◌, ◌^◌, ◌<◌, ◌≤◌, List, [], ◌∷◌, ◌++◌, length, take, Result, Ok, Err, refl, sym, ap, subst, ◌∙◌, append-nil, length-append, arith, common_steps, AreBytes, MessageParts, spelling, joined, BeginsWith, sealed_bytes, joined_sealed, Copies, IsPlain, ArePlain, StopsBehind, CannotRead, StopsSeal, SealFault}
use Rattle.std.specs.Prelude.{min}
use Rattle.ids_frame.specs.declared.fault.BadMessage.{BadMessage}
use Rattle.ids_frame.proofs.MessageLemmas.{one_message_lem}
use Rattle.frame_auth.specs.declared.sealing.SealedPut.{SealedPut}
use Rattle.frame_auth.specs.{IsWritten, IsSealedInto, HasSealedLength, LacksSealed, PutsSealed, SealIntoFault}
use Rattle.frame_auth.specs.declared.fault.SealIntoFault.TheVariants.{Start, Messages, Short}
use Rattle.frame_auth.proofs.LayoutLemmas.{sealed_layout, length-joined_sealed, length-spelling, written_more, writes_sealed}
use Rattle.frame_auth.proofs.OneAnswer.{bad_apart, one_sealing_lem}
use Rattle.ids_frame.proofs.PartLemmas.{behind_bytes}

-- ---- counting

-- plain messages at the front were counted
pub record IsCounted (bytes rest : List ℕ) (len : ℕ) : Type 0 where
  pub front : List MessageParts
  pub are_plain : ArePlain front
  pub read : bytes ≡ joined front ++ rest
  pub long : len ≡ min (length bytes + 42 * length front) (2 ^ 64 - 1)

-- one more
pub counted_more : (bytes rest behind : List ℕ) (len now : ℕ) → IsCounted bytes rest len
    → (m : MessageParts) × IsPlain m × (rest ≡ spelling m ++ behind) → now ≡ min (len + 42) (2 ^ 64 - 1) → IsCounted bytes behind now
counted_more bytes rest behind len now p first more = record {
  front = p.front ++ first.0 ∷ [];
  are_plain = grind (arith, common_steps);
  read = grind (arith, common_steps);
  long = grind (arith, common_steps, p.long);
}

-- the next one stops it
pub counted_stops : (bytes rest : List ℕ) (len : ℕ) (fault : SealFault) → IsCounted bytes rest len → 1 ≤ length rest
    → StopsSeal fault (length bytes - length rest) rest → StopsBehind joined (λ at count. StopsSeal fault at) bytes
counted_stops bytes [] len fault p some why = absurd (omega arith)
counted_stops bytes (next ∷ rest) len fault p some why = record {
  front = p.front;
  are_plain = p.are_plain;
  next = next;
  rest = rest;
  whole = p.read;
  why = grind (arith, common_steps);
}

-- all were
pub counted_all : (bytes rest : List ℕ) (len : ℕ) → IsCounted bytes rest len → length rest ≡ 0 → (key : List ℕ) (start : ℕ)
    → HasSealedLength key start bytes len
counted_all bytes rest len p none key start =
    let read : bytes ≡ joined p.front = grind (arith, common_steps, append-nil) in
    record {
      out = joined_sealed key start p.front;
      sealed = record { messages = p.front; are_plain = p.are_plain; read = read; written = refl };
      long = omega (arith, p.long, ap (λ l. length l) read, length-joined_sealed key start p.front p.are_plain);
    }

-- ---- writing

-- of plain messages those at the front stand sealed at the front of a buffer, which has room for the others
pub record IsSealing (key : List ℕ) (start : ℕ) (bytes old rest new : List ℕ) (due end : ℕ) : Type 0 where
  pub front : List MessageParts
  pub left : List MessageParts
  pub are_plain : ArePlain front
  pub left_plain : ArePlain left
  pub read : bytes ≡ joined front ++ rest
  pub more : rest ≡ joined left
  pub room : length bytes + 42 * (length front + length left) ≤ length old
  pub next : due ≡ start + length front
  pub few : length front * 8 ≤ length (joined front)
  pub written : IsWritten end (joined_sealed key start front) old new

-- before the first
pub sealing_begins : (key : List ℕ) (start len : ℕ) (bytes old : List ℕ) → HasSealedLength key start bytes len → len ≤ length old
    → length old < 2 ^ 64 - 1 → IsSealing key start bytes old bytes old start 0
sealing_begins key start len bytes old p enough small = record {
  front = [];
  left = p.sealed.messages;
  are_plain = tt;
  left_plain = p.sealed.are_plain;
  read = refl;
  more = p.sealed.read;
  room = omega (
    arith,
    p.long,
    ap (λ l. length l) p.sealed.read,
    ap (λ l. length l) p.sealed.written,
    length-joined_sealed key start p.sealed.messages p.sealed.are_plain,
  );
  next = omega arith;
  few = omega arith;
  written = record { place = refl; bytes = refl };
}

-- the message at the front is the next of them
record IsNext (left : List MessageParts) (m : MessageParts) (behind : List ℕ) : Type 0 where
  others : List MessageParts
  is : left ≡ m ∷ others
  more : behind ≡ joined others

next_is : (left : List MessageParts) (rest behind : List ℕ) (m : MessageParts) → ArePlain left → rest ≡ joined left
    → BeginsWith rest m behind → IsNext left m behind
next_is [] rest behind m plain e begins = absurd (cc (begins.whole, e))
next_is (n ∷ left) rest behind m plain e begins =
    let same = one_message_lem m n behind (joined left) begins.fits plain.0.fits (sym begins.whole ∙ e) in
    record { others = left; is = ap (λ x. x ∷ left) (sym same.0); more = same.1 }

-- which can be read
next_reads : (left : List MessageParts) (rest : List ℕ) (at : ℕ) (bad : BadMessage) → AreBytes rest → ArePlain left → rest ≡ joined left
    → 1 ≤ length rest → CannotRead bad at rest → ⊥
next_reads [] rest at bad fits plain e some stops = absurd (omega (arith, some, ap (λ l. length l) e))
next_reads (m ∷ left) rest at bad fits plain e some stops =
    bad_apart at rest bad m (joined left) fits stops (record { fits = plain.0.fits; whole = e })

pub sealing_reads : {key : List ℕ} {start : ℕ} {bytes old rest new : List ℕ} {due end : ℕ} (at : ℕ) (bad : BadMessage) → AreBytes bytes
    → IsSealing key start bytes old rest new due end → 1 ≤ length rest → CannotRead bad at rest → ⊥
sealing_reads {rest = rest} at bad fits p some stops =
    next_reads p.left rest at bad (behind_bytes (joined p.front) rest (subst AreBytes p.read fits)) p.left_plain p.more some stops

-- and has room, sealed
pub sealing_room : {key : List ℕ} {start : ℕ} {bytes old rest new : List ℕ} {due end : ℕ} (behind spelled : List ℕ) (m : MessageParts)
    → IsSealing key start bytes old rest new due end → BeginsWith rest m behind → spelled ≡ spelling m → end + length spelled + 42 ≤ length old
sealing_room {key} {start} {bytes} {old} {rest} {new} {due} {end} behind spelled m p begins is =
    let n = next_is p.left rest behind m p.left_plain p.more begins in
    omega (
      arith,
      p.room,
      p.written.place,
      length-joined_sealed key start p.front p.are_plain,
      ap (λ l. length l) p.read,
      length-append (joined p.front) rest,
      ap (λ l. length l) begins.whole,
      length-append (spelling m) behind,
      ap (λ l. length l) is,
      ap (λ l. length l) n.is,
    )

-- it is written
pub sealing_more : {key : List ℕ} {start : ℕ} {bytes old rest new : List ℕ} {due end : ℕ} (new_now behind spelled : List ℕ) (end_now : ℕ)
    (m : MessageParts) → IsSealing key start bytes old rest new due end → BeginsWith rest m behind → spelled ≡ spelling m
    → ((front old : List ℕ) → IsWritten end front old new → IsWritten end_now (front ++ sealed_bytes key due spelled) old new_now)
    → IsSealing key start bytes old behind new_now (due + 1) end_now
sealing_more {key} {start} {bytes} {old} {rest} {new} {due} {end} new_now behind spelled end_now m p begins is writes =
    let n = next_is p.left rest behind m p.left_plain p.more begins in
    let plain = subst ArePlain n.is p.left_plain in
    let front = joined_sealed key start p.front in
    let more = written_more (writes_sealed key) start due p.front m p.next in
    let whole : front ++ sealed_bytes key due spelled ≡ joined_sealed key start (p.front ++ m ∷ []) =
    cc (more, is, sealed_layout key due m plain.0.none) in
    record {
      front = p.front ++ m ∷ [];
      left = n.others;
      are_plain = grind (arith, common_steps, plain);
      left_plain = plain.1;
      read = grind (arith, common_steps, begins.whole);
      more = n.more;
      room = grind (arith, common_steps, p.room, ap (λ l. length l) n.is);
      next = grind (arith, common_steps, p.next);
      few = grind (arith, common_steps, p.few, length-spelling m);
      written = rw whole at (writes front old p.written);
    }

-- nothing is left
pub sealing_ends : (key : List ℕ) (start : ℕ) (bytes old rest new : List ℕ) (due end : ℕ) → IsSealing key start bytes old rest new due end
    → length rest ≡ 0 → start ≤ 2 ^ 62 → IsSealedInto key start bytes old new (record { bytes = end; next = due })
sealing_ends key start bytes old rest new due end p none most = record {
  out = joined_sealed key start p.front;
  puts = (
    most,
    omega (
      arith,
      p.room,
      ap (λ l. length l) p.read,
      length-append (joined p.front) rest,
      length-joined_sealed key start p.front p.are_plain,
    ),
    record { messages = p.front; are_plain = p.are_plain; read = grind (arith, common_steps, append-nil); written = refl },
  );
  next = p.next;
  written = p.written;
}

-- where the buffer has as many bytes as the messages have, sealed, it is these
pub sealed_whole : {key : List ℕ} {start len : ℕ} {bytes old new : List ℕ} {put : SealedPut} (size : ℕ) (more : List ℕ) → AreBytes bytes
    → HasSealedLength key start bytes len → len < 2 ^ 64 - 1 → IsSealedInto key start bytes old new put → length old ≡ len → size ≡ len
    → Copies joined (joined_sealed key start) bytes (take size (new ++ more))
sealed_whole {key} {start} {len} {bytes} {old} {new} {put} size more fits h small s is_len is_size =
    let same = one_sealing_lem key start bytes (Ok s.out) (Ok h.out) fits s.puts.2 h.sealed in
    let is : s.out ≡ h.out = cc same in
    let long : length s.out ≡ len = omega (arith, ap (λ l. length l) is, h.long) in
    let whole : take size (new ++ more) ≡ s.out = grind (arith, common_steps, append-nil, s.written.bytes, s.written.place) in
    rw whole s.puts.2

-- ---- one answer

-- where messages are put and something is lacking that is room
put_lacks_room : (key : List ℕ) (start room : ℕ) (bytes out : List ℕ) (fault : SealIntoFault) → AreBytes bytes → start ≤ 2 ^ 62
    → Copies joined (joined_sealed key start) bytes out → LacksSealed key start room bytes fault
    → (room < length out) × (fault ≡ Short (min (length out) (2 ^ 64 - 1)))
put_lacks_room key start room bytes out Start fits most copies lacks = absurd (omega arith)
put_lacks_room key start room bytes out (Messages fault) fits most copies lacks =
    absurd (cc (one_sealing_lem key start bytes (Ok out) (Err fault) fits copies lacks.1))
put_lacks_room key start room bytes out (Short wanted) fits most copies lacks =
    let same : lacks.2.out ≡ out = cc (one_sealing_lem key start bytes (Ok lacks.2.out) (Ok out) fits lacks.2.sealed copies) in
    let long : wanted ≡ min (length out) (2 ^ 64 - 1) = lacks.2.long ∙ ap (λ l. min (length l) (2 ^ 64 - 1)) same in
    (omega (arith, lacks.1, long), ap Short long)

-- there is one answer
pub one_sealing_into_lem : (key : List ℕ) (start room : ℕ) (bytes : List ℕ) (one other : Result (List ℕ) SealIntoFault) → AreBytes bytes
    → PutsSealed key start room bytes one → PutsSealed key start room bytes other → one ≡ other
one_sealing_into_lem key start room bytes (Ok out) (Ok other) fits a b =
    ap Ok (cc (one_sealing_lem key start bytes (Ok out) (Ok other) fits a.2 b.2))
one_sealing_into_lem key start room bytes (Ok out) (Err fault) fits a b =
    absurd (omega (arith, a.1, (put_lacks_room key start room bytes out fault fits a.0 a.2 b).0))
one_sealing_into_lem key start room bytes (Err fault) (Ok out) fits a b =
    absurd (omega (arith, b.1, (put_lacks_room key start room bytes out fault fits b.0 b.2 a).0))
one_sealing_into_lem key start room bytes (Err fault) (Err other) fits a b = ap Err (one_lack fault other a b)
  where
    one_lack : (f g : SealIntoFault) → LacksSealed key start room bytes f → LacksSealed key start room bytes g → f ≡ g
    one_lack (Short v) g a b = cc (ap Short a.2.long, (put_lacks_room key start room bytes a.2.out g fits a.0 a.2.sealed b).1)
    one_lack f (Short w) a b = cc (ap Short b.2.long, (put_lacks_room key start room bytes b.2.out f fits b.0 b.2.sealed a).1)
    one_lack (Messages f) (Messages g) a b = ap Messages (cc (one_sealing_lem key start bytes (Err f) (Err g) fits a.1 b.1))
    one_lack f g a b = grind (arith, common_steps)
