-- Where messages lie, and of which instance they are.
use Rattle.std.proofs.lemmas.List.Sums.{AllPass-from_list_all}
use Rattle.ids_reporter.proofs.Names.{◌≡◌, ◌≢◌, ℕ, ◌+◌, ◌<◌, ◌≤◌, List, [], ◌∷◌, ◌++◌, length, take, Some, sym, ap, ◌∙◌, arith, cases_lt, length-append, Ok, Bool, true, ◌==◌, drop, get_or, if◌then◌else◌, get_or-append, get_or-append_seam, eqb-true, flat_map-append, take-append-drop, take-append-le, take_all, none-some, same_Some, list_all, IfOk, option_to_list, slice_get, slice_range, MessageParts, AreBytes, Held, joined, messages_of, messages_read, read_is_held, spelling, Index, One, Mixed, IsIndexOf, IsIndexed, end_of, instance_of, spelling_at, rules, common_steps, gets, get_or_from_slice_get, slice_get_within}

-- ---- instances

-- what all pass, each passes
all_at : {A : Type 0} (test : A → Bool) (xs : List A) (i : ℕ) (x : A) → list_all test xs ≡ true → slice_get xs i ≡ Some x → test x ≡ true
all_at test xs i x all at =
    ap test (sym (get_or_from_slice_get xs i x x at)) ∙ AllPass-from_list_all test xs all i x (slice_get_within xs i x at)

-- where all are of one instance, each is
one_at : (x : MessageParts) (xs : List MessageParts) (i : ℕ) (m : MessageParts) (b : Bool)
    → list_all (λ n. n.instance == x.instance) xs ≡ b → (if b then One x.instance else Mixed) ≢ Mixed
    → slice_get (x ∷ xs) i ≡ Some m → (if b then One x.instance else Mixed) ≡ One m.instance
one_at x xs i m b all pure at = grind (arith, common_steps, all_at, eqb-true, same_Some)

pub instance_at : (messages : List MessageParts) (i : ℕ) (m : MessageParts) → instance_of messages ≢ Mixed
    → slice_get messages i ≡ Some m → instance_of messages ≡ One m.instance
instance_at messages i m pure at = grind (arith, common_steps, none-some, one_at)

-- ---- places

joined_more : (messages : List MessageParts) (m : MessageParts) → length (joined (messages ++ m ∷ [])) ≡ length (joined messages) + length (spelling m)
joined_more messages m = grind (arith, common_steps)

-- the last place is where the messages end
pub ends_at : (index : Index) (messages : List MessageParts) → IsIndexOf index messages → end_of index ≡ length (joined messages)
ends_at index messages is = grind (arith, common_steps)

-- the index with a message more
pub index_more : (old new : Index) (messages : List MessageParts) (m : MessageParts) (end : ℕ) → IsIndexOf old messages
    → end ≡ end_of old + length (spelling m) → new.places.items ≡ old.places.items ++ end ∷ [] → new.instance ≡ instance_of (messages ++ m ∷ [])
    → IsIndexOf new (messages ++ m ∷ [])
index_more old new messages m end is at places instance =
    search (rules, cases_lt, ends_at, get_or-append, get_or-append_seam, joined_more, length-append, take-append-le, take_all)

-- ---- a message's bytes

-- a part between its ends
between : (bytes front part back : List ℕ) (start end : ℕ) → bytes ≡ (front ++ part) ++ back → start ≡ length front → end ≡ length (front ++ part)
    → (start ≤ end) × (end ≤ length bytes) × (slice_range bytes start end ≡ part)
between bytes front part back start end whole low high = grind (arith, common_steps)

-- one message more is taken
take_one : {A : Type 0} (xs : List A) (i : ℕ) → i < length xs → take (i + 1) xs ≡ take i xs ++ option_to_list (slice_get xs i)
take_one xs i lt = grind (arith, common_steps, gets)

-- where a message lies
pub message_in : (bytes : List ℕ) (index : Index) (messages : List MessageParts) (i : ℕ) → IsIndexed bytes index messages → i < length messages
    → (get_or index.places.items i 0 ≤ get_or index.places.items (i + 1) 0) × (get_or index.places.items (i + 1) 0 ≤ length bytes)
    × (slice_range bytes (get_or index.places.items i 0) (get_or index.places.items (i + 1) 0) ≡ spelling_at messages i)
message_in bytes index messages i is lt =
    let next : joined (take (i + 1) messages) ≡ joined (take i messages) ++ spelling_at messages i =
    grind (arith, take_one messages i, flat_map-append spelling (take i messages)) in
    let whole : bytes ≡ joined (take (i + 1) messages) ++ joined (drop (i + 1) messages) =
    grind (arith, is.whole, take-append-drop (i + 1) messages, flat_map-append spelling (take (i + 1) messages) (drop (i + 1) messages)) in
    grind (arith, common_steps, between)

-- ---- going over the messages

-- the bytes are the messages that are read
pub whole_of : (bytes : List ℕ) (held : Held) → AreBytes bytes → held ≡ messages_read bytes → IfOk held (λ messages. bytes ≡ joined messages)
whole_of bytes held fit read = grind (arith, read_is_held bytes held fit)

-- and these are all
pub whole_read : (slice bytes : List ℕ) (messages : List MessageParts) → slice ≡ bytes → Ok messages ≡ messages_read slice
    → slice ≡ joined messages → bytes ≡ joined (messages_of bytes)
whole_read slice bytes messages same read whole = search rules

-- the next message ends within the bytes
pub has_room : (bytes : List ℕ) (front rest : List MessageParts) (m : MessageParts) (index : Index) → bytes ≡ joined (front ++ m ∷ rest)
    → IsIndexOf index front → end_of index + length (spelling m) ≤ length bytes
has_room bytes front rest m index whole is = grind (arith, common_steps, ends_at)

-- a message has bytes, so there are no more messages than bytes
pub few_messages : (messages : List MessageParts) → length messages ≤ length (joined messages)
few_messages [] = omega arith
few_messages (m ∷ messages) = omega (arith, few_messages messages, length-append (spelling m) (joined messages))
