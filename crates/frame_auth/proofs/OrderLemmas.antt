-- Messages of one sealed list: how many are taken, and where the first stands that is out of order.
use Rattle.frame_auth.proofs.Names.{common_steps, ◌≡◌, ℕ, zero, suc, ◌+◌, ◌*◌, ◌^◌, ◌<◌, ◌≤◌, ◌⊎◌, inl, inr, List, [], ◌∷◌, ◌++◌, length, get_or, take, drop, None, Result, Ok, Err, refl, sym, ap, subst, ◌∙◌, arith, IsByte, MessageParts, FitsMessage, flag, header, spelling, joined, sealed, joined_sealed, AllByRecursion, ArePlain, IsPlain, IsSealedWith, HasOtherCounter, GivesUnsealed, rules, ◌↔◌, ◌≢◌, Option, add-one, flat_map-append, take-append-drop, take_more, take_more_same, same_from_push, at_drop_more, length-take, length-take-le, get_or_default, All-take, All-from_recursion, recursion_from_All, UnsealFault, AreOf, IsOutOfOrder, AnswersInOrder, sealed_from}
use Rattle.std.specs.Prelude.{Contains, AllPairs}
use Rattle.std.proofs.lemmas.Bool.{cases_eq}
use Rattle.std.proofs.Math.Seq.{take-length}
use Rattle.frame_auth.specs.declared.fault.UnsealFault.TheVariants as unseals
use Rattle.frame_auth.proofs.LayoutLemmas.{sealed_is, sealed_fits, other_counter, begins_so}
use Rattle.frame_auth.proofs.OneAnswer.{one_unsealing_lem}

-- ---- messages by their counters

-- the message can be said, and is sealed with this counter
record IsMade (key : List ℕ) (counter : ℕ) (m : MessageParts) : Type 0 where
  pub fits : FitsMessage m
  pub with : IsSealedWith key counter m

length-sealed_from : (key : List ℕ) (start : ℕ) (signed : List MessageParts) → length (sealed_from key start signed) ≡ length signed
length-sealed_from key start [] = refl
length-sealed_from key start (m ∷ signed) = omega (arith, length-sealed_from key (start + 1) signed)

take-sealed_from : (key : List ℕ) (start n : ℕ) (signed : List MessageParts)
    → take n (sealed_from key start signed) ≡ sealed_from key start (take n signed)
take-sealed_from key start zero signed = refl
take-sealed_from key start (suc n) [] = refl
take-sealed_from key start (suc n) (m ∷ signed) = ap (λ l. sealed key start m ∷ l) (take-sealed_from key (start + 1) n signed)

-- the message at a place has the counter of that place
made_at : (key : List ℕ) (start : ℕ) (signed : List MessageParts) (k : ℕ) (d : MessageParts) → ArePlain signed → k < length signed
    → IsMade key (start + k) (get_or (sealed_from key start signed) k d)
made_at key start [] k d plain within = absurd (omega arith)
made_at key start (m ∷ signed) zero d plain within =
    subst (λ n. IsMade key n (sealed key start m)) (omega arith) (record { fits = sealed_fits key start m plain.0.fits; with = sealed_is key start m plain.0 })
made_at key start (m ∷ signed) (suc k) d plain within =
    subst (λ n. IsMade key n (get_or (sealed_from key (start + 1) signed) k d)) (omega arith) (made_at key (start + 1) signed k d plain.1 (omega arith))

-- and no other
other_at : (key : List ℕ) (start : ℕ) (signed : List MessageParts) (k n : ℕ) (d : MessageParts) → ArePlain signed
    → start + length signed < 2 ^ 64 → k < length signed → n ≤ length signed → k ≢ n
    → HasOtherCounter key (start + n) (get_or (sealed_from key start signed) k d)
other_at key start signed k n d plain few within most other = grind (arith, common_steps, other_counter, made_at)

pub apart_lem : (key : List ℕ) (start : ℕ) (signed : List MessageParts) → ArePlain signed → start + length signed < 2 ^ 64
    → AllPairs (◌≢◌) (sealed_from key start signed)
apart_lem key start signed plain few i j d before within same = grind (arith, common_steps, length-sealed_from, other_at, made_at)

-- ---- how many are in order

plain_take : (n : ℕ) (ms : List MessageParts) → ArePlain ms → ArePlain (take n ms)
plain_take n ms plain = recursion_from_All IsPlain (take n ms) (All-take IsPlain n ms (All-from_recursion IsPlain ms plain))

-- some message
any : MessageParts
any = record { version = 1; instance = 0; sensor = 0; event = 0; count = 0; reserved = 0; stamp = None; context = None; signature = None }

-- what is of the list can be said
of_fits : (key : List ℕ) (start : ℕ) (signed : List MessageParts) (m : MessageParts) → ArePlain signed
    → Contains (sealed_from key start signed) m → FitsMessage m
of_fits key start signed m plain c = grind (arith, common_steps, made_at, length-sealed_from)

module _ (key : List ℕ) (start : ℕ) (signed messages : List MessageParts) (plain : ArePlain signed) (few : start + length signed < 2 ^ 64)
    (of : AreOf (sealed_from key start signed) messages) where
  -- messages that are in order are no more than the list has
  most : (n : ℕ) → n ≤ length messages → take n messages ≡ take n (sealed_from key start signed) → n ≤ length signed
  most n within first = grind (arith, common_steps, length-take, length-sealed_from)

  -- the next message is in order, or it has another counter than the one that is due
  next : (n : ℕ) → n < length messages → take n messages ≡ take n (sealed_from key start signed)
      → (take (n + 1) messages ≡ take (n + 1) (sealed_from key start signed)) ⊎ HasOtherCounter key (start + n) (get_or messages n any)
  next n within first = grind (arith, common_steps, All-from_recursion, any, length-sealed_from, get_or_default, cases_eq, take_more_same, other_at, most)

  -- and not both
  not_next : (n : ℕ) → n < length messages → HasOtherCounter key (start + n) (get_or messages n any)
      → take (n + 1) messages ≡ take (n + 1) (sealed_from key start signed) → ⊥
  not_next n within x e =
      let inside : n < length signed = omega (arith, most (n + 1) (omega (arith, within)) e) in
      let last = take_more (sealed_from key start signed) n any (omega (arith, inside, length-sealed_from key start signed)) in
      let is = same_from_push _ _ _ _ (sym (take_more messages n any within) ∙ e ∙ last) in
      x.other (subst (IsSealedWith key (start + n)) (sym is.1) (made_at key start signed n any plain inside).with)

  -- so many messages are in order, or one of them is not
  in_order : (n : ℕ) → n ≤ length messages → (take n messages ≡ take n (sealed_from key start signed))
      ⊎ ((at : ℕ) × IsOutOfOrder (sealed_from key start signed) messages at)
  in_order zero few = inl refl
  in_order (suc n) few =
      elim (in_order n (omega (arith, few))) [
        | inr out ↦ inr out
        | inl first ↦
            elim (next n few first) [
              | inl more ↦ inl (rw add-one at more)
              | inr x ↦ inr (
                length (joined (take n messages)),
                record { count = n; some = few; first = first; other = λ e. not_next n few x e; place = refl },
              )
            ]
      ]

  -- the first message that is out of order is refused
  refused : (at : ℕ) → IsOutOfOrder (sealed_from key start signed) messages at → GivesUnsealed key start (joined messages) (Err (unseals.Counter at))
  refused at p =
      let n = p.count in
      let front = take n signed in
      let x = get_or messages n any in
      let behind = joined (drop (n + 1) messages) in
      let first : take n messages ≡ sealed_from key start front = p.first ∙ take-sealed_from key start n signed in
      elim (next n p.some p.first) [
        | inl more ↦ absurd (p.other more)
        | inr other ↦ record {
          front = front;
          are_plain = plain_take n signed plain;
          next = x.version * 16 + header x;
          rest = drop 1 (spelling x) ++ behind;
          whole = ap joined (sym (take-append-drop n messages)) ∙ flat_map-append spelling (take n messages) (drop n messages)
              ∙ ap (λ l. joined l ++ joined (drop n messages)) first
              ∙ at_drop_more (λ l. joined_sealed key start front ++ joined l) messages n any p.some;
          why = (
            grind (arith, common_steps, first),
            begins_so {behind = behind}
                (record {
                  fits = of_fits key start signed x plain (All-from_recursion (Contains (sealed_from key start signed)) messages of n any p.some);
                  whole = refl;
                })
                (rw (length-take-le n signed (most n (omega (arith, p.some)) p.first)) other),
          );
        }
      ]

  -- an answer in order is given
  given : (answer : Result (List ℕ) UnsealFault) → AnswersInOrder key start signed messages answer
      → GivesUnsealed key start (joined messages) answer
  given (Ok out) p = grind (arith, common_steps, plain_take, take-sealed_from)
  given (Err fault) p = grind (arith, common_steps, refused)

  -- and there is one
  some : (answer : Result (List ℕ) UnsealFault) × AnswersInOrder key start signed messages answer
  some = elim (in_order (length messages) (omega arith)) [
    | inl first ↦ (Ok (joined (take (length messages) signed)), (sym (take-length messages) ∙ first, refl))
    | inr out ↦ (Err (unseals.Counter out.0), out.1)
  ]

-- ---- what is answered

bytes_append : (xs ys : List ℕ) → AllByRecursion IsByte xs → AllByRecursion IsByte ys → AllByRecursion IsByte (xs ++ ys)
bytes_append xs ys all more = grind (arith, common_steps)

flag_few : {A : Type 0} (part : Option A) → flag part ≤ 1
flag_few part = search rules

-- a spelling is bytes
spelling_bytes : (m : MessageParts) → FitsMessage m → AllByRecursion IsByte (spelling m)
spelling_bytes m fits = search (rules, bytes_append, recursion_from_All, flag_few) depth 20

-- so are those of messages of a sealed list
joined_bytes : (key : List ℕ) (start : ℕ) (signed : List MessageParts) → ArePlain signed → (messages : List MessageParts)
    → AreOf (sealed_from key start signed) messages → AllByRecursion IsByte (joined messages)
joined_bytes key start signed plain [] of = tt
joined_bytes key start signed plain (m ∷ messages) of = search (rules, bytes_append, spelling_bytes, of_fits, joined_bytes key start signed plain messages of.1)

pub in_order_lem : (key : List ℕ) (start : ℕ) (signed messages : List MessageParts) (answer : Result (List ℕ) UnsealFault)
    → ArePlain signed → start + length signed < 2 ^ 64 → AreOf (sealed_from key start signed) messages
    → GivesUnsealed key start (joined messages) answer ↔ AnswersInOrder key start signed messages answer
in_order_lem key start signed messages answer plain few of = grind (arith, common_steps, some, given, All-from_recursion, joined_bytes, one_unsealing_lem)
