-- What a file holds is its one list of messages, or the one place where they stop.
use Rattle.ids_frame.proofs.Names.{◌≡◌, ℕ, zero, suc, ◌-◌, ◌<◌, ◌≤◌, ◌==◌, true, false, List, [], ◌∷◌, ◌++◌, length, drop, Ok, Err, refl, sym, ap, subst, ◌∙◌, append_assoc, arith, ◌↔◌, result_ok, eqb-true, append-nil, length-append, AreBytes, MessageParts, FitsMessage, spelling, Begun, BeginsWith, Begins, common_steps}
use Rattle.std.proofs.Math.Dec.{eqb-suc-zero}
use Rattle.ids_frame.specs.{FrameFault, message_at, joined, AreMessages, IsJoined, HasMessages, Held, Holds, before, held_in, messages_read, messages_of}
use Rattle.ids_frame.proofs.PartLemmas.{behind_bytes, one_answer}
use Rattle.ids_frame.proofs.MessageLemmas.{again, told, read_of}

-- ---- bytes that hold something

-- so many bytes are left out
left_out : (size : ℕ) (text rest : List ℕ) → held_in size (length text) (text ++ rest) ≡ held_in size 0 rest
unfolding held_in
left_out size [] rest = refl
left_out size (byte ∷ text) rest = left_out size text rest

-- a message stands before what is held after it
held_behind : (size : ℕ) (m : MessageParts) (rest : List ℕ) → FitsMessage m
    → held_in size 0 (spelling m ++ rest) ≡ before m (held_in size 0 rest)
unfolding held_in
held_behind size m rest fits =
    let others : length (spelling m) - 1 ≡ length (drop 1 (spelling m)) = omega arith in
    rw (again m rest fits, others) (ap (before m) (left_out size (drop 1 (spelling m)) rest))

-- messages that are joined are held
joined_held : (size : ℕ) (messages : List MessageParts) → AreMessages messages → held_in size 0 (joined messages) ≡ Ok messages
unfolding held_in
joined_held size [] fit = refl
joined_held size (m ∷ messages) fit = held_behind size m (joined messages) fit.0 ∙ ap (before m) (joined_held size messages fit.1)

-- a fault after messages is held
fault_held : (size : ℕ) (front : List MessageParts) (next : ℕ) (rest : List ℕ) (fault : FrameFault) → AreMessages front
    → message_at (next ∷ rest) ≡ Err fault
    → held_in size 0 (joined front ++ next ∷ rest) ≡ Err (record { at = size - length (next ∷ rest); fault = fault })
unfolding held_in
fault_held size [] next rest fault fit e = rw e refl
fault_held size (m ∷ front) next rest fault fit e = grind (arith, common_steps, append_assoc, held_behind, fault_held size front next rest fault fit.1 e)

-- messages that a file is joined of are read
joined_read : (bytes : List ℕ) (messages : List MessageParts) → IsJoined bytes messages → messages_read bytes ≡ Ok messages
unfolding messages_read
joined_read bytes messages joins = ap (held_in (length bytes) 0) joins.whole ∙ joined_held (length bytes) messages joins.fit

-- ---- going over the messages

-- these bytes are left after some messages
pub record IsLeft (bytes rest : List ℕ) : Type 0 where
  pub front : List MessageParts
  pub fit : AreMessages front
  pub whole : bytes ≡ joined front ++ rest
  pub are_bytes : AreBytes rest

-- at first all are left
pub all_left : (bytes : List ℕ) → AreBytes bytes → IsLeft bytes bytes
all_left bytes fits = record { front = []; fit = tt; whole = refl; are_bytes = fits }

-- one message fewer is left, and fewer bytes
pub left_behind : (bytes rest : List ℕ) (m : MessageParts) (behind : List ℕ) → IsLeft bytes rest → message_at rest ≡ Ok (m, behind)
    → IsLeft bytes behind × (length behind < length rest)
left_behind bytes rest m behind left e =
    let begins : BeginsWith rest m behind = subst (Begins rest) e (told rest left.are_bytes) in (
      record {
        front = left.front ++ m ∷ [];
        fit = grind (arith, common_steps);
        whole = grind (arith, common_steps, append-nil, append_assoc);
        are_bytes = behind_bytes (spelling m) behind (subst AreBytes begins.whole left.are_bytes);
      },
      omega (arith, ap (λ l. length l) begins.whole, length-append (drop 1 (spelling m)) behind),
    )

-- the messages stop where none can be read
pub stops : (bytes rest : List ℕ) (fault : FrameFault) → IsLeft bytes rest → (length rest == 0) ≡ false → message_at rest ≡ Err fault
    → messages_read bytes ≡ Err (record { at = length bytes - length rest; fault = fault })
unfolding messages_read
stops bytes [] fault left some e = absurd (cc some)
stops bytes (next ∷ rest) fault left some e = grind (arith, common_steps, fault_held)

-- where nothing is left all are messages, and they are those that are read
pub all_read : (bytes rest : List ℕ) → IsLeft bytes rest → (length rest == 0) ≡ true
    → HasMessages bytes × (Ok (messages_of bytes) ≡ messages_read bytes)
all_read bytes [] left none = grind (arith, common_steps, append-nil, joined_read)
all_read bytes (next ∷ rest) left none = absurd (omega (arith, eqb-true _ _ none))

-- what the steps of going over the messages need
pub ruleset going_over = (all_left, left_behind, stops, all_read)

-- ---- what a file holds

-- a file holds what is read of it
holds : (most : ℕ) (bytes rest : List ℕ) → IsLeft bytes rest → length rest ≤ most → Holds bytes (messages_read bytes)
holds most bytes [] left le = grind (arith, common_steps, all_read, joined_read)
holds zero bytes (next ∷ rest) left le = absurd (omega arith)
holds (suc most) bytes (next ∷ rest) left le =
    (elim (message_at (next ∷ rest)) as (λ (r : Begun). message_at (next ∷ rest) ≡ r → Holds bytes (messages_read bytes)) [
      | Ok x ↦ λ e.
          let step = left_behind bytes (next ∷ rest) x.0 x.1 left e in
          holds most bytes x.1 step.0 (omega (arith, step.1))
      | Err fault ↦ λ e.
          rw (stops bytes (next ∷ rest) fault left (eqb-suc-zero _) e) (record {
            front = left.front;
            fit = left.fit;
            next = next;
            rest = rest;
            whole = left.whole;
            place = grind (arith, common_steps, length-append);
            cause = rw e at (told (next ∷ rest) left.are_bytes);
          })
    ]) refl

-- what it holds is read of it
read_if_held : (bytes : List ℕ) (held : Held) → AreBytes bytes → Holds bytes held → messages_read bytes ≡ held
unfolding messages_read
read_if_held bytes (Ok messages) fits joins = joined_read bytes messages joins
read_if_held bytes (Err bad) fits breaks =
    let tail : List ℕ = breaks.next ∷ breaks.rest in
    let fault = read_of tail (Err bad.fault) (behind_bytes (joined breaks.front) tail (subst AreBytes breaks.whole fits)) breaks.cause in
    grind (arith, common_steps, fault_held, length-append)

-- a file holds exactly what is read of it
pub read_is_held : (bytes : List ℕ) (held : Held) → AreBytes bytes → (messages_read bytes ≡ held) ↔ Holds bytes held
read_is_held bytes held fits =
    (λ e. subst (Holds bytes) e (holds (length bytes) bytes bytes (all_left bytes fits) (omega arith)), read_if_held bytes held fits)

-- ---- taking messages out

-- the message that is read is the first, and messages follow
pub pops : (bytes : List ℕ) (m : MessageParts) (rest : List ℕ) (messages : List MessageParts) → IsJoined bytes messages
    → message_at bytes ≡ Ok (m, rest) → (messages_of bytes ≡ m ∷ messages_of rest) × HasMessages rest
unfolding message_at
pops bytes m rest [] joins read = absurd (cc (read, ap message_at joins.whole))
pops bytes m rest (x ∷ xs) joins read =
    let same = one_answer (ap result_ok (sym (again x (joined xs) joins.fit.0) ∙ ap message_at (sym joins.whole) ∙ read)) in
    let others : IsJoined rest xs = record { fit = joins.fit.1; whole = sym same.1 } in
    (rw (joined_read bytes (x ∷ xs) joins, joined_read rest xs others) (ap (λ y. y ∷ xs) same.0), (xs, others))

-- where no message is read there is none
pub none_left : (bytes : List ℕ) (fault : FrameFault) → message_at bytes ≡ Err fault → messages_of bytes ≡ []
unfolding messages_read held_in
none_left [] fault e = refl
none_left (next ∷ rest) fault e = rw e refl

-- what taking a message out needs
pub ruleset taking_out = (pops, none_left)
