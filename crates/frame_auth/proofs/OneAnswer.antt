-- What sealing gives is one answer, and so is what unsealing gives.
use Rattle.frame_auth.proofs.Names.{◌≡◌, ℕ, ◌+◌, List, [], ◌∷◌, ◌++◌, length, Result, Ok, Err, refl, sym, ap, subst, ◌∙◌, append_assoc, arith, append-nil, AreBytes, MessageParts, spelling, joined, BeginsWith, Begins, Begun, sealed, joined_sealed, Copies, IsPlain, ArePlain, HasNoSeal, HasOtherCounter, StopsBehind, CannotRead, BeginsSo, StopsSeal, StopsUnseal, Gives, GivesSealed, GivesUnsealed, rules, common_steps, SealFault, UnsealFault}
use Rattle.ids_frame.specs.declared.fault.BadMessage.{BadMessage}
use Rattle.ids_frame.proofs.MessageLemmas.{one_message_lem, read_of}
use Rattle.ids_frame.proofs.PartLemmas.{behind_bytes}
use Rattle.frame_auth.specs.declared.fault.UnsealFault.TheVariants as unseals
use Rattle.frame_auth.proofs.LayoutLemmas.{sealed_is, Writes, writes_plain, writes_sealed}

-- the bytes begin with a plain message in the form that is due
record MayGo (form : ℕ → MessageParts → MessageParts) (due : ℕ) (bytes : List ℕ) : Type 0 where
  message : MessageParts
  is_plain : IsPlain message
  behind : List ℕ
  read : bytes ≡ spelling (form due message) ++ behind

-- the first message's spelling stands in front
cut : {write : ℕ → List MessageParts → List ℕ} {form : ℕ → MessageParts → MessageParts} → Writes write form
    → (start : ℕ) (x : MessageParts) (xs : List MessageParts) (a : List ℕ)
    → write start (x ∷ xs) ++ a ≡ spelling (form start x) ++ (write (start + 1) xs ++ a)
cut {write} {form} w start x xs a = grind (arith, common_steps, append_assoc)

-- where messages that are read end, because no more may go, is one place
one_front : {write : ℕ → List MessageParts → List ℕ} {form : ℕ → MessageParts → MessageParts} → Writes write form
    → (start : ℕ) (xs ys : List MessageParts) (a b : List ℕ) → ArePlain xs → ArePlain ys → write start xs ++ a ≡ write start ys ++ b
    → ((due : ℕ) → due ≡ start + length xs → MayGo form due a → ⊥) → ((due : ℕ) → due ≡ start + length ys → MayGo form due b → ⊥)
    → (xs ≡ ys) × (a ≡ b)
one_front w start [] [] a b all_x all_y e no_a no_b = (refl, rw (w.none start) at e)
one_front {write} w start [] (y ∷ ys) a b all_x all_y e no_a no_b =
    let read = (rw (w.none start) at e) ∙ cut w start y ys b in
    absurd (no_a start (omega arith) (record { message = y; is_plain = all_y.0; behind = write (start + 1) ys ++ b; read = read }))
one_front {write} w start (x ∷ xs) [] a b all_x all_y e no_a no_b =
    let read = sym (rw (w.none start) at e) ∙ cut w start x xs a in
    absurd (no_b start (omega arith) (record { message = x; is_plain = all_x.0; behind = write (start + 1) xs ++ a; read = read }))
one_front w start (x ∷ xs) (y ∷ ys) a b all_x all_y e no_a no_b =
    let whole = sym (cut w start x xs a) ∙ e ∙ cut w start y ys b in
    let first = one_message_lem _ _ _ _ (w.fits start x all_x.0) (w.fits start y all_y.0) whole in
    let behind = one_front w (start + 1) xs ys a b all_x.1 all_y.1 first.1
    (λ due is. no_a due (omega arith)) (λ due is. no_b due (omega arith)) in
    (ap (λ z. z ∷ xs) (w.same start x y all_x.0 all_y.0 first.0) ∙ ap (λ zs. y ∷ zs) behind.0, behind.1)

-- ---- where going over messages ends

-- the faults of one place exclude each other, and a message that may go
record AreFaults {F : Type 0} (form : ℕ → MessageParts → MessageParts) (Why : F → (due at : ℕ) → List ℕ → Type 0) : Type 0 where
  stuck : (fault : F) (due at : ℕ) (bytes : List ℕ) → AreBytes bytes → Why fault due at bytes → MayGo form due bytes → ⊥
  one : (f g : F) (due at : ℕ) (bytes : List ℕ) → AreBytes bytes → Why f due at bytes → Why g due at bytes → f ≡ g

-- at no bytes no message may go
none_go : {form : ℕ → MessageParts → MessageParts} (due : ℕ) → MayGo form due [] → ⊥
none_go due go = absurd (cc go.read)

module _ {F : Type 0} {write : ℕ → List MessageParts → List ℕ} {form : ℕ → MessageParts → MessageParts} {Why : F → (due at : ℕ) → List ℕ → Type 0}
    (w : Writes write form) (faults : AreFaults form Why) (to : List MessageParts → List ℕ) (start : ℕ) (bytes : List ℕ) (fit : AreBytes bytes) where
  -- the bytes at a fault are bytes, and no message may go there
  fault_bytes : (g : F) → (s : StopsBehind (write start) (λ at count. Why g (start + count) at) bytes) → AreBytes (s.next ∷ s.rest)
  fault_bytes g s = behind_bytes (write start s.front) (s.next ∷ s.rest) (subst AreBytes s.whole fit)

  stuck_behind : (g : F) (s : StopsBehind (write start) (λ at count. Why g (start + count) at) bytes) (due : ℕ) → due ≡ start + length s.front
      → MayGo form due (s.next ∷ s.rest) → ⊥
  stuck_behind g s due is go = faults.stuck g _ _ _ (fault_bytes g s) s.why (subst (λ d. MayGo form d (s.next ∷ s.rest)) is go)

  -- where all bytes are messages there is no fault
  ends_apart : (out : List ℕ) (g : F) → Copies (write start) to bytes out
      → StopsBehind (write start) (λ at count. Why g (start + count) at) bytes → ⊥
  ends_apart out g p q =
      absurd (cc (one_front w start p.messages q.front [] (q.next ∷ q.rest) p.are_plain q.are_plain (append-nil _ ∙ sym p.read ∙ q.whole)
      (λ due is. none_go due) (stuck_behind g q)).1)

  -- there is one end
  one_end : (a b : Result (List ℕ) F) → Gives (write start) to (λ fault at count. Why fault (start + count) at) bytes a
      → Gives (write start) to (λ fault at count. Why fault (start + count) at) bytes b → a ≡ b
  one_end (Ok out) (Ok new) p q =
      let both = one_front w start p.messages q.messages [] [] p.are_plain q.are_plain
      (append-nil _ ∙ sym p.read ∙ q.read ∙ sym (append-nil _)) (λ due is. none_go due) (λ due is. none_go due) in
      cc (p.written, both.0, q.written)
  one_end (Ok out) (Err g) p q = absurd (ends_apart out g p q)
  one_end (Err g) (Ok out) p q = absurd (ends_apart out g q p)
  one_end (Err g) (Err h) p q =
      let both = one_front w start p.front q.front (p.next ∷ p.rest) (q.next ∷ q.rest) p.are_plain q.are_plain (sym p.whole ∙ q.whole)
      (stuck_behind g p) (stuck_behind h q) in
      grind (arith, common_steps, both, faults.one g h (start + length p.front) _ (p.next ∷ p.rest) (fault_bytes g p) p.why)

-- ---- the faults of one place

read_one : (bytes : List ℕ) → AreBytes bytes → (a b : Begun) → Begins bytes a → Begins bytes b → a ≡ b
read_one bytes fit a b p q = sym (read_of bytes a fit p) ∙ read_of bytes b fit q

-- a message that cannot be read is one fault
bad_one : (at : ℕ) (bytes : List ℕ) (f g : BadMessage) → AreBytes bytes → CannotRead f at bytes → CannotRead g at bytes → f ≡ g
bad_one at bytes f g fit p q = grind (arith, common_steps, read_one)

-- it is not read
pub bad_apart : (at : ℕ) (bytes : List ℕ) (f : BadMessage) (m : MessageParts) (behind : List ℕ) → AreBytes bytes → CannotRead f at bytes
    → BeginsWith bytes m behind → ⊥
bad_apart at bytes f m behind fit p begins = absurd (cc (read_one bytes fit (Err f.fault) (Ok (m, behind)) p.1 begins))

-- what holds of the message at the front
holds_of : {P : MessageParts → Type 0} (bytes : List ℕ) (m : MessageParts) (behind : List ℕ) → BeginsSo P bytes → BeginsWith bytes m behind → P m
holds_of {P} bytes m behind so begins = grind (arith, common_steps, one_message_lem)

go_begins : {form : ℕ → MessageParts → MessageParts} {write : ℕ → List MessageParts → List ℕ} {due : ℕ} {bytes : List ℕ} → Writes write form → (go : MayGo form due bytes)
    → BeginsWith bytes (form due go.message) go.behind
go_begins {form} {write} {due} w go = record { fits = w.fits due go.message go.is_plain; whole = go.read }

-- those of sealing
seal_faults : AreFaults (λ due m. m) (λ fault due at bytes. StopsSeal fault at bytes)
seal_faults = search (rules, bad_apart, bad_one, go_begins, holds_of, writes_plain)

-- those of unsealing
unseal_faults : (key : List ℕ) → AreFaults (sealed key) (λ fault due at bytes. StopsUnseal key due fault at bytes)
unseal_faults key = record { stuck = stuck; one = one }
  where
    stuck : (fault : UnsealFault) (due at : ℕ) (bytes : List ℕ) → AreBytes bytes → StopsUnseal key due fault at bytes
        → MayGo (sealed key) due bytes → ⊥
    stuck (unseals.Bad bad) due at bytes fit why go = bad_apart at bytes bad _ _ fit why (go_begins (writes_sealed key) go)
    stuck (unseals.Tag place) due at bytes fit why go =
        holds_of bytes _ _ why.1 (go_begins (writes_sealed key) go) due (sealed_is key due go.message go.is_plain)
    stuck (unseals.Counter place) due at bytes fit why go =
        (holds_of bytes _ _ why.1 (go_begins (writes_sealed key) go)).other (sealed_is key due go.message go.is_plain)
    stuck unseals.NoMemory due at bytes fit why go = why

    apart : (due : ℕ) (bytes : List ℕ) → BeginsSo (HasNoSeal key) bytes → BeginsSo (HasOtherCounter key due) bytes → ⊥
    apart due bytes none other = holds_of bytes other.message _ none other.begins other.holds.counter other.holds.with

    one : (f g : UnsealFault) (due at : ℕ) (bytes : List ℕ) → AreBytes bytes → StopsUnseal key due f at bytes → StopsUnseal key due g at bytes
        → f ≡ g
    one unseals.NoMemory g due at bytes fit p q = absurd p
    one f unseals.NoMemory due at bytes fit p q = absurd q
    one (unseals.Bad f) (unseals.Bad g) due at bytes fit p q = ap unseals.Bad (bad_one at bytes f g fit p q)
    one (unseals.Bad f) g due at bytes fit p q = absurd (bad_apart at bytes f _ _ fit p q.1.begins)
    one f (unseals.Bad g) due at bytes fit p q = absurd (bad_apart at bytes g _ _ fit q p.1.begins)
    one (unseals.Tag a) (unseals.Tag b) due at bytes fit p q = ap (λ place. unseals.Tag place) (p.0 ∙ sym q.0)
    one (unseals.Counter a) (unseals.Counter b) due at bytes fit p q = ap (λ place. unseals.Counter place) (p.0 ∙ sym q.0)
    one (unseals.Tag a) (unseals.Counter b) due at bytes fit p q = absurd (apart due bytes p.1 q.1)
    one (unseals.Counter a) (unseals.Tag b) due at bytes fit p q = absurd (apart due bytes q.1 p.1)

-- ---- what is given

pub one_sealing_lem : (key : List ℕ) (start : ℕ) (bytes : List ℕ) (a b : Result (List ℕ) SealFault) → AreBytes bytes
    → GivesSealed key start bytes a → GivesSealed key start bytes b → a ≡ b
one_sealing_lem key start bytes a b fit p q = one_end writes_plain seal_faults (joined_sealed key start) start bytes fit a b p q

pub one_unsealing_lem : (key : List ℕ) (start : ℕ) (bytes : List ℕ) (a b : Result (List ℕ) UnsealFault) → AreBytes bytes
    → GivesUnsealed key start bytes a → GivesUnsealed key start bytes b → a ≡ b
one_unsealing_lem key start bytes a b fit p q = one_end (writes_sealed key) (unseal_faults key) joined start bytes fit a b p q

pub sealed_opens_lem : (key : List ℕ) (start : ℕ) (bytes out : List ℕ) → Copies joined (joined_sealed key start) bytes out
    → Copies (joined_sealed key start) joined out bytes
sealed_opens_lem key start bytes out p = search rules
