-- What bytes begin with is what is read of them.
use Rattle.ids_frame.proofs.Names.{◌≡◌, ℕ, ◌+◌, ◌*◌, ◌/◌, ◌%◌, ◌^◌, ◌≤◌, List, [], ◌∷◌, ◌++◌, length, drop, Option, Ok, Err, refl, sym, ap, subst, ◌∙◌, append_assoc, arith, ok_or, ◌↔◌, result_ok, w16, append-nil, length-append, All-tail, IsByte, AreBytes, MessageParts, FitsMessage, IsKnown, flag, header, stamp_part, context_part, signature_part, spelling, has, message_of, Begun, IsCut, Begins, ◌≢◌, CauseOf, FrameFault, common_steps}
use Rattle.ids_frame.specs.declared.fault.FrameFault.TheVariants.{Short}
use Rattle.ids_frame.specs.Reading.{parts_at, message_at}
use Rattle.ids_frame.proofs.PartLemmas.{one_answer, IsPart, tells, Parts, Values, AllCan, made, part, SpelledAs, Makes, parts_are_part, optional_is_part}
use Rattle.ids_frame.proofs.NumberLemmas.{wide16, number_is_part, byte_is_part}
use Rattle.ids_frame.proofs.FieldLemmas.{stamp_is_part, context_is_part, signature_is_part}

-- ---- the first byte

-- a flag is one or zero
flag_small : {A : Type 0} (x : Option A) → flag x ≤ 1
flag_small x = grind (arith, common_steps)

-- a first byte of a known layout, with no unknown part
record IsPlain (first : ℕ) : Type 0 where
  known : IsKnown (first / 16)
  few : first / 8 % 2 ≡ 0

-- ---- a message after its first byte

-- the parts of a message
abbrev message_parts : ℕ → Parts MessageParts
message_parts first =
    let two = number_is_part w16 (2 ^ 16) wide16 in
    part two (λ place. part two (λ event. part two (λ count. part byte_is_part (λ reserved.
    part (optional_is_part stamp_part refl stamp_is_part (has 2 first)) (λ stamp.
    part (optional_is_part context_part refl context_is_part (has 1 first)) (λ context.
    part (optional_is_part signature_part refl signature_is_part (has 4 first)) (λ signature.
    made (message_of first place event count reserved stamp context signature))))))))

-- a message that this first byte announces
record CanFollow (first : ℕ) (m : MessageParts) : Type 0 where
  fits : FitsMessage m
  is : first ≡ m.version * 16 + header m

-- all of a message but its first byte
abbrev behind_first : MessageParts → List ℕ
behind_first m = drop 1 (spelling m)

-- the parts are spelled as the message
spelled : (first : ℕ) → IsPlain first → (v : Values (message_parts first)) → AllCan (message_parts first) v
    → SpelledAs (message_parts first) behind_first (CanFollow first) v
spelled first plain v can = grind (arith, common_steps, append_assoc, append-nil)

-- a message is made of its parts
makes_message : (first : ℕ) (m : MessageParts) → CanFollow first m → Makes (message_parts first) m
makes_message first m can =
    record {
      values = (m.instance * 64 + m.sensor, (m.event, (m.count, (m.reserved, (m.stamp, (m.context, (m.signature, tt)))))));
      can = grind (arith, common_steps);
      is = grind (arith, common_steps, flag_small);
    }

-- after a plain first byte a message is a part
message_is_part : (first : ℕ) → IsPlain first → IsPart (parts_at first) behind_first (CanFollow first)
unfolding parts_at
message_is_part first plain =
    parts_are_part (message_parts first) behind_first (CanFollow first) (spelled first plain) (makes_message first)

-- ---- what is read where bytes begin so

-- a version or a part that is not known is the fault, whatever follows
at_strange : (bytes more : List ℕ) (fault : FrameFault) → CauseOf fault bytes → fault ≢ Short → message_at (bytes ++ more) ≡ Err fault
unfolding message_at
at_strange [] more fault cause strange = grind (arith, common_steps)
at_strange (first ∷ bytes) more fault cause strange = grind (arith, common_steps)

-- a message that stands at the front is read
pub again : (m : MessageParts) (rest : List ℕ) → FitsMessage m → message_at (spelling m ++ rest) ≡ Ok (m, rest)
unfolding message_at
again m rest fits = grind (arith, common_steps, flag_small, message_is_part)

-- no spelling begins another: what begins with two spellings begins with one message
pub one_message_lem : (m n : MessageParts) (a b : List ℕ) → FitsMessage m → FitsMessage n
    → spelling m ++ a ≡ spelling n ++ b → (m ≡ n) × (a ≡ b)
one_message_lem m n a b fits_m fits_n same =
    one_answer (ap result_ok (sym (again m a fits_m) ∙ ap message_at same ∙ again n b fits_n))

-- ---- what is read tells what bytes begin with

-- after a plain first byte
told_behind : (first : ℕ) (bytes : List ℕ) → IsPlain first → AreBytes (first ∷ bytes) → Begins (first ∷ bytes) (ok_or (parts_at first bytes) Short)
told_behind first bytes plain fits =
    grind (arith, common_steps, tells (message_is_part first plain) bytes (All-tail IsByte first bytes fits) (parts_at first bytes) refl)

-- what is read is what bytes begin with
pub told : (bytes : List ℕ) → AreBytes bytes → Begins bytes (message_at bytes)
unfolding message_at
told [] fits =
    let some = (message_is_part 16 (omega arith)).one in
    record { message = some.0; fits = some.1.fits; next = some.0.version * 16 + header some.0; more = behind_first some.0; whole = refl }
told (first ∷ bytes) fits = grind (arith, common_steps, told_behind)

-- the spelling that a cut one is a prefix of is read
longer : (bytes : List ℕ) (cut : IsCut bytes) → message_at (bytes ++ cut.next ∷ cut.more) ≡ Ok (cut.message, [])
longer bytes cut = ap message_at (cut.whole ∙ sym (append-nil _)) ∙ again cut.message [] cut.fits

-- a cut spelling begins with nothing else
short_if_cut : (bytes : List ℕ) (cut : IsCut bytes) (read : Begun) → Begins bytes read → read ≡ Err Short
short_if_cut bytes cut (Ok x) b =
    let more : List ℕ = cut.next ∷ cut.more in
    let here = ap message_at (ap (λ l. l ++ more) b.whole ∙ append_assoc (spelling x.0) x.1 more) ∙ again x.0 (x.1 ++ more) b.fits in
    absurd (omega (arith, ap (λ l. length l) (one_answer (ap result_ok (sym here ∙ longer bytes cut))).1, length-append x.1 more))
short_if_cut bytes cut (Err fault) b = grind (arith, common_steps, longer bytes cut, at_strange bytes (cut.next ∷ cut.more) fault b)

-- what bytes begin with is what is read
pub read_of : (bytes : List ℕ) (read : Begun) → AreBytes bytes → Begins bytes read → message_at bytes ≡ read
read_of bytes (Ok x) fits begins = ap message_at begins.whole ∙ again x.0 x.1 begins.fits
read_of bytes (Err Short) fits cut = short_if_cut bytes cut (message_at bytes) (told bytes fits)
read_of bytes (Err fault) fits strange = grind (arith, common_steps, append-nil, at_strange bytes [] fault strange)

-- bytes begin exactly with what is read of them
pub read_is_begun : (bytes : List ℕ) (read : Begun) → AreBytes bytes → (message_at bytes ≡ read) ↔ Begins bytes read
read_is_begun bytes read fits = (λ e. subst (Begins bytes) e (told bytes fits), read_of bytes read fits)
