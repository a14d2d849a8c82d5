-- A sealed message by its bytes: the plain one, marked in its first byte, and the signature part after it. Then going over
-- messages one by one, and tags.
use Rattle.frame_auth.proofs.Names.{◌≡◌, ℕ, zero, suc, IsByte, AreBytes, ◌+◌, ◌*◌, ◌^◌, ◌≤◌, ◌<◌, List, [], ◌∷◌, ◌++◌, length, take, drop, Option, Some, None, refl, sym, ap, ◌∙◌, arith, length-append, w16, w64, to_be_bytes, MessageParts, FitsMessage, BeginsWith, spelling, joined, with_signature, bare, hmac, seal_of, sealed, joined_sealed, IsPlain, ArePlain, IsSealedWith, HasNoSeal, HasOtherCounter, Moves, marked, sealed_bytes, CanUnmark, unmarked, rules, common_steps, sha256, digest_bytes, ◌≢◌, IfSome, Bor, is_some, option_copied, false, All-append, be_bytes_8, ◌-◌, ◌==◌, ◌⊎◌, inl, inr, append_assoc, BeginsSo, StopsBehind, get_or, same_number_lists, and_le_l, and_le_r, le_or_l, le_or_r, masked, subst, take_at, drop_at, header}
use Rattle.ids_frame.proofs.NumberLemmas.{wide32, wide64}
use Rattle.sha2.proofs.Facts256.{length-sha256}
use Rattle.std.proofs.Math.ListN.{set}
use Rattle.std.proofs.lemmas.List.Edits.{map_over_more}
use Rattle.std.specs.Int.Bits.{bit_xor, bit_or, xor_self}

-- a seal has 40 bytes
pub length-seal_of : (key : List ℕ) (counter : ℕ) (plain : List ℕ) → length (seal_of key counter plain) ≡ 40
length-seal_of key counter plain = grind (arith, common_steps, length-append, length-sha256)

-- a message that has no signature part is bare
pub bare_is : (m : MessageParts) → m.signature ≡ None → bare m ≡ m
bare_is m none = ap (λ s. with_signature s m) (sym none)

-- a message with a signature part, by its bare one
signed_layout : (m : MessageParts) (part : List ℕ)
    → spelling (with_signature (Some part) m) ≡ marked (spelling (bare m)) ++ (to_be_bytes w16 (length part) ++ part)
signed_layout m part = search rules

-- a plain message, sealed
pub sealed_layout : (key : List ℕ) (counter : ℕ) (m : MessageParts) → m.signature ≡ None
    → spelling (sealed key counter m) ≡ sealed_bytes key counter (spelling m)
sealed_layout key counter m none = grind (arith, common_steps, length-seal_of key counter (spelling m))

-- each seal adds 42 bytes
pub length-joined_sealed : (key : List ℕ) (start : ℕ) (messages : List MessageParts) → ArePlain messages
    → length (joined_sealed key start messages) ≡ length (joined messages) + 42 * length messages
length-joined_sealed key start [] plain = refl
length-joined_sealed key start (m ∷ messages) plain =
    let rest = drop 1 (spelling m) in
    omega (
      arith,
      ap (λ l. length l) (sealed_layout key start m plain.0.none),
      length-append rest (0 ∷ 40 ∷ seal_of key start (spelling m)),
      length-seal_of key start (spelling m),
      length-append (spelling (sealed key start m)) (joined_sealed key (start + 1) messages),
      length-append (spelling m) (joined messages),
      length-joined_sealed key (start + 1) messages plain.1,
    )

-- a mark and 42 bytes can be taken off
unmark : (first next : ℕ) (front back : List ℕ) → next ≡ first + 4 → length back ≡ 42
    → CanUnmark (next ∷ (front ++ back)) × (unmarked (next ∷ (front ++ back)) ≡ first ∷ front)
unmark first next front back marks size = grind (arith, common_steps)

-- a signature part of 40 bytes can be taken off
pub unsealed_layout : (m : MessageParts) (part : List ℕ) → m.signature ≡ Some part → length part ≡ 40
    → CanUnmark (spelling m) × (unmarked (spelling m) ≡ spelling (bare m))
unsealed_layout m part some size =
    let back = to_be_bytes w16 (length part) ++ part in
    let whole = ap (λ s. spelling (with_signature s m)) some ∙ signed_layout m part in
    subst (λ (l : List ℕ). CanUnmark l × (unmarked l ≡ spelling (bare m))) (sym whole)
    (unmark (m.version * 16 + header (bare m)) _ (drop 1 (spelling (bare m))) back refl (omega (arith, size)))

-- ---- seals

-- a seal is one counter and one tag
pub seal_parts : (key count told plain : List ℕ) (counter : ℕ) → length count ≡ 8 → count ++ told ≡ seal_of key counter plain
    → (count ≡ to_be_bytes w64 counter) × (told ≡ hmac key (plain ++ count))
seal_parts key count told plain counter size e =
    let bytes = to_be_bytes w64 counter in
    let tag = hmac key (plain ++ bytes) in
    let first : count ≡ bytes = sym (take_at count told 8 size) ∙ ap (take 8) e ∙ take_at bytes tag 8 refl in
    grind (arith, common_steps, drop_at)

-- a counter and its tag are a seal
pub seal_made : (key count told plain : List ℕ) (counter : ℕ) → to_be_bytes w64 counter ≡ count → told ≡ hmac key (plain ++ count)
    → count ++ told ≡ seal_of key counter plain
seal_made key count told plain counter is tag = search rules

-- a signature part of another length is no seal
pub no_seal : (key : List ℕ) (m : MessageParts) (signature : Option (List ℕ)) → signature ≡ m.signature
    → IfSome signature (λ part. length part ≢ 40) → HasNoSeal key m
no_seal key m s e other counter with =
    grind (arith, common_steps, e ∙ ap (λ x. x.signature) with, length-seal_of key counter (spelling (bare m)))

-- one that no counter makes is no seal
pub no_counter : (key part : List ℕ) (m : MessageParts) → m.signature ≡ Some part
    → ((counter : ℕ) → part ≡ seal_of key counter (spelling (bare m)) → ⊥) → HasNoSeal key m
no_counter key part m some none counter with = none counter (cc (some, with))

-- one that a counter makes is
pub sealed_with : (key part : List ℕ) (counter : ℕ) (m : MessageParts) → m.signature ≡ Some part
    → part ≡ seal_of key counter (spelling (bare m)) → IsSealedWith key counter m
sealed_with key part counter m some made = ap (λ s. with_signature s m) (some ∙ ap Some made)

-- a plain message, sealed, is sealed so
pub sealed_is : (key : List ℕ) (counter : ℕ) (m : MessageParts) → IsPlain m → IsSealedWith key counter (sealed key counter m)
sealed_is key counter m plain = ap (sealed key counter) (sym (bare_is m plain.none))

-- a message that is sealed with one counter is sealed with no other
pub other_counter : (key : List ℕ) (counter due : ℕ) (m : MessageParts) → IsSealedWith key counter m
    → counter < 2 ^ 64 → due < 2 ^ 64 → counter ≢ due → HasOtherCounter key due m
other_counter key counter due m with fits due_fits other = search rules

-- ---- other signature parts

-- the layout can say a message with another signature part
with_fits : (m : MessageParts) (s : Option (List ℕ)) → FitsMessage m → IfSome s (λ part. length part ≤ 65535) → IfSome s AreBytes
    → FitsMessage (with_signature s m)
with_fits m s fits short are_bytes = search rules

digest_are_bytes : (hash : List ℕ) (words : ℕ) → AreBytes (digest_bytes hash words)
unfolding digest_bytes
digest_are_bytes hash zero = λ k d within. absurd (omega arith)
digest_are_bytes hash (suc words) = All-append IsByte _ _ (digest_are_bytes hash words) (wide32.many _).are_bytes

sha256_are_bytes : (bytes : List ℕ) → AreBytes (sha256 bytes)
unfolding sha256
sha256_are_bytes bytes = digest_are_bytes _ 8

-- also with a seal
pub sealed_fits : (key : List ℕ) (counter : ℕ) (m : MessageParts) → FitsMessage m → FitsMessage (sealed key counter m)
sealed_fits key counter m fits =
    with_fits m (Some (seal_of key counter (spelling m))) fits (omega (arith, length-seal_of key counter (spelling m)))
    (All-append IsByte (to_be_bytes w64 counter) _ (wide64.many counter).are_bytes (sha256_are_bytes _))

-- and plain without any
pub bare_is_plain : (m : MessageParts) → FitsMessage m → IsPlain (bare m)
bare_is_plain m fits = record { fits = with_fits m None fits tt tt; none = refl }

-- a signature part that is not there is none
pub unsigned : (s : Option (Bor (List ℕ))) → is_some s ≡ false → option_copied s ≡ None
unsigned s none = search rules

-- what was added after `old` is the message without its signature part
pub added_bare : (old now spelled part : List ℕ) (from : ℕ) (m : MessageParts) → now ≡ old ++ unmarked spelled → spelled ≡ spelling m
    → from ≡ length old → m.signature ≡ Some part → length part ≡ 40 → drop from now ≡ spelling (bare m)
added_bare old now spelled part from m added is place some size = grind (arith, common_steps, unsealed_layout)

-- so the message is moved, without its signature part
pub moved : (key part : List ℕ) (due : ℕ) (m : MessageParts) (rest behind old new spelled : List ℕ) → BeginsWith rest m behind
    → m.signature ≡ Some part → length part ≡ 40 → part ≡ seal_of key due (spelling (bare m)) → spelled ≡ spelling m
    → new ≡ old ++ unmarked spelled → Moves (sealed key due) (λ m. m) rest behind old new
moved key part due m rest behind old new spelled begins some size made is added = record {
  message = bare m;
  is_plain = bare_is_plain m begins.fits;
  read = rw (begins.whole, sealed_with key part due m some made) refl;
  written = rw (added, is, (unsealed_layout m part some size).1) refl;
}

-- what telling a counter needs, and what taking a seal off does
pub ruleset telling = (common_steps, be_bytes_8, seal_made, seal_parts)

pub ruleset unsealing = (common_steps, unsealed_layout)

-- ---- going over messages, each written as it is due: sealing reads plain ones and writes sealed ones, unsealing the other way round

-- messages from a counter on are written one after the other, each plain one in a form of its own, which tells it
pub record Writes (write : ℕ → List MessageParts → List ℕ) (form : ℕ → MessageParts → MessageParts) : Type 0 where
  pub none : (due : ℕ) → write due [] ≡ []
  pub more : (due : ℕ) (m : MessageParts) (ms : List MessageParts) → write due (m ∷ ms) ≡ spelling (form due m) ++ write (due + 1) ms
  pub fits : (due : ℕ) (m : MessageParts) → IsPlain m → FitsMessage (form due m)
  pub same : (due : ℕ) (m n : MessageParts) → IsPlain m → IsPlain n → form due m ≡ form due n → m ≡ n

pub writes_plain : Writes (λ due ms. joined ms) (λ due m. m)
writes_plain = search rules

pub writes_sealed : (key : List ℕ) → Writes (joined_sealed key) (sealed key)
writes_sealed key = grind (arith, common_steps, bare_is, sealed_fits)

-- one message more
pub written_more : {write : ℕ → List MessageParts → List ℕ} {form : ℕ → MessageParts → MessageParts} → Writes write form
    → (due now : ℕ) (ms : List MessageParts) (m : MessageParts) → now ≡ due + length ms
    → write due (ms ++ m ∷ []) ≡ write due ms ++ spelling (form now m)
written_more {write} {form} w due now [] m e = search rules
written_more {write} {form} w due now (x ∷ ms) m e = grind (arith, common_steps, append_assoc, written_more w (due + 1) now ms m (omega arith))

-- so far some messages were read and written, and the next is due
pub record Goes (from to : ℕ → List MessageParts → List ℕ) (start due : ℕ) (bytes rest out : List ℕ) : Type 0 where
  pub front : List MessageParts
  pub are_plain : ArePlain front
  pub read : bytes ≡ from start front ++ rest
  pub written : out ≡ to start front
  pub next : due ≡ start + length front
  pub few : length front * 8 ≤ length (from start front)

pub length-spelling : (m : MessageParts) → 8 ≤ length (spelling m)
length-spelling m = omega arith

-- and then one more
pub goes_on : {from to : ℕ → List MessageParts → List ℕ} {form other : ℕ → MessageParts → MessageParts} {start due : ℕ}
    {bytes rest behind out new : List ℕ} → Writes from form → Writes to other → Goes from to start due bytes rest out
    → Moves (form due) (other due) rest behind out new → Goes from to start (due + 1) bytes behind new
goes_on {from} {to} {form} {other} {start} {due} {bytes} {rest} {behind} {out} {new} w v g move =
    let read = written_more w start due g.front move.message g.next in
    grind (arith, common_steps, append_assoc, written_more, length-append, length-spelling)

-- a fault of the next message is the first one
pub stops_here : {F : Type 0} {none fault : F} {from to : ℕ → List MessageParts → List ℕ} {start due : ℕ} {bytes rest out : List ℕ}
    (Why : F → (due at : ℕ) → List ℕ → Type 0) → Goes from to start due bytes rest out → (length rest == 0) ≡ false
    → (fault ≡ none) ⊎ Why fault due (length bytes - length rest) rest
    → (fault ≡ none) ⊎ StopsBehind (from start) (λ at count. Why fault (start + count) at) bytes
stops_here Why g some (inl is) = inl is
stops_here {rest = []} Why g some (inr why) = absurd (cc some)
stops_here {rest = next ∷ rest} Why g some (inr why) = grind (arith, common_steps)

-- what holds of the message that the bytes begin with
pub begins_so : {P : MessageParts → Type 0} {bytes behind : List ℕ} {m : MessageParts} → BeginsWith bytes m behind → P m → BeginsSo P bytes
begins_so {P} {bytes} {behind} {m} begins holds = record { message = m; behind = behind; begins = begins; holds = holds }

-- ---- tags: masks, and what a difference of bytes is

-- one byte more is masked
pub mask_more : (mask i : ℕ) (bytes block : List ℕ) → i < length block → block ≡ masked mask (take i bytes) ++ drop i bytes
    → set block i (bit_xor (get_or block i 0) mask) ≡ masked mask (take (i + 1) bytes) ++ drop (i + 1) bytes
mask_more mask i bytes block within so_far =
    grind (arith, common_steps, map_over_more (λ byte. bit_xor byte mask) bytes block i (get_or block i 0))

-- where no difference is found there was none before, and the bytes are the same
pub no_difference : (found x y : ℕ) → bit_or found (bit_xor x y) ≡ 0 → (found ≡ 0) × (x ≡ y)
no_difference found x y none = grind (arith, common_steps, le_or_r, le_or_l, and_le_l, and_le_r)

-- what comparing two tags needs
pub ruleset comparing = (no_difference, xor_self, same_number_lists)
