-- What the taken pairs name is all sources merged.
use Rattle.ids_reporter.proofs.Names.{◌≡◌, ℕ, zero, suc, ◌+◌, ◌<◌, ◌≤◌, inl, inr, List, [], ◌∷◌, ◌++◌, length, Option, Some, refl, ap, ◌∙◌, arith, indexes, upto, AreInOrder, Taken, Bool, true, ◌==◌, flat_map-append, get_or_past, filter_map-append, AllByRecursion, cons_option, filter_map, range_with_len, All, OnOk, Result, filter, if◌then◌else◌, is_ok, slice_get, MessageParts, joined, Drain, Feeder, One, AreMerged, named, named_by, AreAllTaken, back_of, feeders_of, taken_of, AreApart, Sources, count_at, instance_of, source_at, rules, common_steps, slice_get_cases, slice_get_within, nat_tests, AreAt, IsBackIn}
use Rattle.ids_reporter.specs.declared.relay.Relay.{Relay}
use Rattle.ids_reporter.proofs.SourceLemmas.{instance_at}

-- ---- what a pair names

pub named_more : (sources : Sources) (pairs : List Taken) (pair : Taken)
    → joined (named sources (pairs ++ pair ∷ [])) ≡ joined (named sources pairs) ++ joined (named sources (pair ∷ []))
named_more sources pairs pair = grind (arith, common_steps, filter_map-append, flat_map-append)

-- past the last source there is no message
no_source : (sources : Sources) (s : ℕ) → length sources ≤ s → count_at sources s ≡ 0
no_source sources s le = ap (λ l. length l) (get_or_past sources s [] le)

-- ---- the messages of one source

chosen : (test : MessageParts → Bool) (o : Option MessageParts) (b : Bool) (messages : List MessageParts)
    → ((m : MessageParts) → o ≡ Some m → test m ≡ b)
    → filter test (cons_option o messages) ≡ (if b then cons_option o (filter test messages) else filter test messages)
chosen test o b messages all = grind (arith, common_steps)

-- those of its instance are those that its pairs name
of_source : (sources : Sources) (s i : ℕ) → AreApart sources → instance_of (source_at sources s) ≡ One i → (pairs : List Taken)
    → filter (λ (m : MessageParts). m.instance == i) (named sources pairs) ≡ filter_map (slice_get (source_at sources s)) (indexes s pairs)
of_source sources s i apart one [] = refl
of_source sources s i apart one (pair ∷ pairs) =
    let here : (m : MessageParts) → named_by sources pair ≡ Some m → (m.instance == i) ≡ (pair.source == s) = λ m at.
    grind (arith, nat_tests, apart.differ pair.source s i, instance_at (source_at sources pair.source) pair.index m (apart.pure pair.source) at) in
    let first = chosen (λ m. m.instance == i) (named_by sources pair) (pair.source == s) (named sources pairs) here in
    grind (arith, common_steps, nat_tests, first, of_source sources s i apart one pairs)

-- all numbers in turn name all messages
shift : (x : MessageParts) (xs : List MessageParts) (a n : ℕ)
    → filter_map (slice_get (x ∷ xs)) (range_with_len (a + 1) n) ≡ filter_map (slice_get xs) (range_with_len a n)
shift x xs a zero = refl
shift x xs a (suc n) = grind (arith, common_steps, shift x xs (a + 1) n)

all_named : (messages : List MessageParts) → filter_map (slice_get messages) (upto (length messages)) ≡ messages
all_named [] = refl
all_named (x ∷ xs) = ap (λ l. x ∷ l) (shift x xs 0 (length xs) ∙ all_named xs)

-- ---- all sources

all_cons : {P : MessageParts → Type 0} (o : Option MessageParts) (messages : List MessageParts) → ((m : MessageParts) → o ≡ Some m → P m)
    → AllByRecursion P messages → AllByRecursion P (cons_option o messages)
all_cons o messages here others = search rules

-- each message is of some source's instance
of_some : (sources : Sources) → AreApart sources → (pairs : List Taken)
    → AllByRecursion (λ (m : MessageParts). (s : ℕ) × (s < length sources) × (instance_of (source_at sources s) ≡ One m.instance)) (named sources pairs)
of_some sources apart [] = tt
of_some sources apart (pair ∷ pairs) = search (rules, all_cons, no_source, slice_get_within, instance_at, of_some sources apart pairs)

pub merged : (sources : Sources) (pairs : List Taken) → AreApart sources → ((s : ℕ) → indexes s pairs ≡ upto (count_at sources s))
    → AreMerged sources (named sources pairs)
merged sources pairs apart all = grind (arith, common_steps, all_named, of_some, of_source)

-- once all feeders are back and nothing is left, all pairs of each source were taken
pub all_indexes : (relay : Relay) (sources : Sources) (feeders : List Feeder) (old drain : Drain) → AreAt relay (count_at sources) feeders
    → length feeders ≡ length sources → feeders_of drain ≡ length sources → All (IsBackIn old) feeders → back_of drain ≡ back_of old
    → AreInOrder (taken_of drain) → AreAllTaken drain → (s : ℕ) → indexes s (taken_of drain) ≡ upto (count_at sources s)
all_indexes relay sources feeders old drain at count made back same in_order all s = in_order s ∙ ap upto (elim (slice_get_cases feeders s).1 [
  | inl x ↦ let is = at s x.0 x.1 in all s (count_at sources s) (inl (rw (is.number, is.puts, ← same) at (back s x.0 x.1)))
  | inr x ↦ all s (count_at sources s) (inr (omega (arith, made, x.0, count), no_source sources s (omega (arith, x.0, count))))
])

-- what was written, with a message more, unless there was no memory
pub written_more : {A B C E F G : Type 0} (before : Result A E) (extended : Result B F) (after : Result C G) (out message now bytes : List ℕ)
    → is_ok before ≡ true → OnOk before (out ≡ bytes) → now ≡ (if is_ok extended then out ++ message else out) → is_ok after ≡ is_ok extended
    → OnOk after (now ≡ bytes ++ message)
written_more before extended after out message now bytes ok was more same = search rules
