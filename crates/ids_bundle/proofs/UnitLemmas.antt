-- Lists that are cut in two ways, texts that stand one after the other, runs and their units, and how these are known again.
use Rattle.ids_bundle.proofs.Names.{◌≡◌, ℕ, ◌+◌, ◌*◌, ◌<◌, ◌≤◌, ◌↔◌, Bool, IsTrue, List, [], ◌∷◌, ◌++◌, length, get_or, take, drop, Err, ap, arith, take_at, append-nil, w16, to_be_bytes, AreBytes, MessageParts, FitsMessage, CauseOf, joined, spelling, Run, load, unit, FitsUnit, IsUnit, AreSoMany, IsBody, unit_size, IsPart, IsBad, common_steps, Reads, ◌⊎◌, Ok, refl, inl, inr, flat_map, AllByRecursion, Result, BeginsLong, again, one_message_lem, read_of, Front, rules}
use Rattle.std.proofs.lemmas.Nat.{from_be_bytes-to_be_bytes_2}
use Rattle.ids_frame.specs.declared.fault.FrameFault.{FrameFault}

-- the same list in two parts, twice: either the first front is the longer one or as long, or it is the shorter one
pub split : {A : Type 0} (a b c d : List A) → a ++ b ≡ c ++ d
    → ((more : List A) × (a ≡ c ++ more) × (more ++ b ≡ d))
    ⊎ ((next : A) × (more : List A) × (c ≡ a ++ next ∷ more) × (b ≡ next ∷ (more ++ d)))
split a b [] d e = inl (a, refl, e)
split [] b (y ∷ c) d e = inr (y, c, refl, e)
split (x ∷ a) b (y ∷ c) d e = grind (arith, common_steps, split a b c d)

-- a list is empty or has a first value
pub cases_list : {A : Type 0} (l : List A) → (l ≡ []) ⊎ ((x : A) × (rest : List A) × (l ≡ x ∷ rest))
cases_list [] = inl refl
cases_list (x ∷ l) = inr (x, l, refl)

-- what holds of each of two lists, joined, holds of each of both
pub all_parts : {A : Type 0} (P : A → Type 0) (xs ys : List A) → AllByRecursion P (xs ++ ys)
    → AllByRecursion P xs × AllByRecursion P ys
all_parts P [] ys all = (tt, all)
all_parts P (x ∷ xs) ys all = grind (arith, all_parts P xs ys all.1)

-- no text of a value begins another
abbrev pub IsPrefixFree : {A : Type 0} → (A → List ℕ) → (A → Type 0) → Type 0
IsPrefixFree {A} text Can = (x y : A) (a b : List ℕ) → Can x → Can y → text x ++ a ≡ text y ++ b → (x ≡ y) × (a ≡ b)

-- bytes that begin with no text of a value
abbrev pub IsStuck : {A : Type 0} → (A → List ℕ) → (A → Type 0) → List ℕ → Type 0
IsStuck {A} text Can bytes = (x : A) (more : List ℕ) → Can x → bytes ≡ text x ++ more → ⊥

-- where no text begins another, bytes are read as texts, up to where none begins, in one way
pub one_way : {A : Type 0} (text : A → List ℕ) (Can : A → Type 0) → IsPrefixFree text Can → (xs ys : List A) (a b : List ℕ)
    → AllByRecursion Can xs → AllByRecursion Can ys → IsStuck text Can a → IsStuck text Can b
    → flat_map text xs ++ a ≡ flat_map text ys ++ b → (xs ≡ ys) × (a ≡ b)
one_way text Can free [] [] a b can_x can_y stuck_a stuck_b e = (refl, e)
one_way text Can free (x ∷ xs) (y ∷ ys) a b can_x can_y stuck_a stuck_b e =
    grind (arith, common_steps, one_way text Can free xs ys a b can_x.1 can_y.1 stuck_a stuck_b)
one_way text Can free xs ys a b can_x can_y stuck_a stuck_b e = grind (arith, common_steps)

-- what lets reading have one answer: texts that begin no other, and a cause that no text begins at
pub record Settles {A Fault : Type 0} (text : A → List ℕ) (Can : A → Type 0) (StopsAt : Fault → ℕ → List ℕ → Type 0) (bytes : List ℕ) : Type 0 where
  pub free : IsPrefixFree text Can
  pub none : IsStuck text Can []
  pub stuck : (fault : Fault) (place : ℕ) (front rest : List ℕ) → bytes ≡ front ++ rest → StopsAt fault place rest → IsStuck text Can rest
  pub one : (f g : Fault) (place : ℕ) (front rest : List ℕ) → bytes ≡ front ++ rest → StopsAt f place rest → StopsAt g place rest → f ≡ g

-- it has one
pub one_answer : {A Fault : Type 0} (text : A → List ℕ) (Can : A → Type 0) (StopsAt : Fault → ℕ → List ℕ → Type 0) (bytes : List ℕ)
    → Settles text Can StopsAt bytes → (one other : Result (List A) Fault) → Reads text Can StopsAt bytes one
    → Reads text Can StopsAt bytes other → one ≡ other
one_answer text Can StopsAt bytes s (Ok xs) (Ok ys) a b =
    grind (arith, common_steps, append-nil, one_way text Can s.free xs ys [] [] a.fit b.fit s.none s.none)
one_answer text Can StopsAt bytes s (Ok xs) (Err g) a b = grind (arith, common_steps, one_way text Can s.free xs b.front [] b.rest)
one_answer text Can StopsAt bytes s (Err f) (Ok ys) a b = grind (arith, common_steps, one_way text Can s.free a.front ys a.rest [])
one_answer text Can StopsAt bytes s (Err f) (Err g) a b = grind (arith, common_steps, one_way)

-- ---- how many bytes runs have

-- a run and another
pub load-append : (run more : Run) → load (run ++ more) ≡ load run + load more
load-append run more = grind (arith, common_steps)

-- a message has eight bytes at least, so there are few
pub few_messages : (run : Run) → length run * 8 ≤ load run
few_messages [] = omega arith
few_messages (m ∷ run) = grind (arith, common_steps, few_messages run)

-- ---- one reading

-- no message stands where nothing does
pub no_message : IsStuck spelling FitsMessage []
no_message m more fits e = absurd cc

-- a unit tells its size
pub unit_size-unit : (run : Run) (more : List ℕ) → FitsUnit run → unit_size (unit run ++ more) ≡ length (unit run)
unit_size-unit run more fits = omega (arith, from_be_bytes-to_be_bytes_2 (load run) fits.few)

-- no unit begins another
pub free_units : IsPrefixFree unit FitsUnit
free_units x y a b fits_x fits_y e =
    let bodies = split (joined x) a (joined y) b (ap (drop 4) e) in
    let same = one_way spelling FitsMessage one_message_lem x y [] [] fits_x.fit fits_y.fit no_message no_message in
    grind (arith, common_steps, append-nil, unit_size-unit x a fits_x, unit_size-unit y b fits_y, bodies, same)

-- too few bytes begin with no unit
pub part_is_stuck : (bytes : List ℕ) → IsPart bytes → IsStuck unit FitsUnit bytes
part_is_stuck bytes part run more fits e = grind (arith, common_steps, unit_size-unit)

-- enough bytes for a unit whose first ones are none are bad
pub bad_unless_unit : (bytes : List ℕ) (size : ℕ) → size ≡ unit_size bytes → size ≤ length bytes → (IsUnit (take size bytes) → ⊥) → IsBad bytes
bad_unless_unit bytes size is enough not = record {
  whole = omega (arith, is, enough);
  none = λ run more fits e. not (run, fits, grind (arith, common_steps, take_at, unit_size-unit run more fits));
}

-- ---- a unit is known by its head and its messages

-- a message of this length stands at the front
pub long : {bytes : List ℕ} {m : MessageParts} {len : ℕ} → Front bytes m len → BeginsLong bytes len
long {bytes} {m} {len} front = record { message = m; rest = drop len bytes; begins = front.begins; long = grind (arith, common_steps) }

-- after a message of this length stands one fewer
pub one_fewer : (bytes : List ℕ) (m : MessageParts) (len number fewer : ℕ) → Front bytes m len → number ≡ fewer + 1
    → AreSoMany number bytes ↔ AreSoMany fewer (drop len bytes)
one_fewer bytes m len number fewer front e = (
  λ so. grind (arith, common_steps, cases_list so.0, one_message_lem),
  λ so. (m ∷ so.0, grind (arith, common_steps), omega (arith, so.2)),
)

-- where no message can be read none stands
pub none_more : (bytes : List ℕ) (fault : FrameFault) (number : ℕ) → AreBytes bytes → CauseOf fault bytes → 0 < number → AreSoMany number bytes → ⊥
none_more bytes fault number fits cause some so =
    grind (arith, common_steps, cases_list so.0, read_of bytes (Err fault) fits cause, again)

-- a unit that stands at the front has such a head
pub head_says : (bytes more : List ℕ) (run : Run) → FitsUnit run → bytes ≡ unit run ++ more
    → (get_or bytes 0 0 * 256 + get_or bytes 1 0 ≡ length run) × (get_or bytes 2 0 * 256 + get_or bytes 3 0 ≡ load run)
    × (drop 4 bytes ≡ joined run ++ more)
head_says bytes more run fits e = search (rules, few_messages)

-- two bytes are those of a number
two : (n x y : ℕ) → x < 256 → y < 256 → n ≡ x * 256 + y → to_be_bytes w16 n ≡ x ∷ y ∷ []
two n x y lt_x lt_y e = grind (arith, common_steps)

-- so the test of a head and of what stands after it is that of a unit
pub unit_known : (bytes body : List ℕ) (number size : ℕ) (answer : Bool) → AreBytes bytes → 4 ≤ length bytes
    → number ≡ get_or bytes 0 0 * 256 + get_or bytes 1 0 → size ≡ get_or bytes 2 0 * 256 + get_or bytes 3 0 → body ≡ drop 4 bytes
    → IsTrue answer ↔ IsBody number size body → IsTrue answer ↔ IsUnit bytes
unit_known (a ∷ b ∷ c ∷ d ∷ rest) body number size answer fits four n s e known = (
  λ yes.
      let is = known.0 yes in
      grind (arith, common_steps, fits 0 0, fits 1 0, fits 2 0, fits 3 0, two (length is.2.0) a b, two (load is.2.0) c d),
  λ is. known.1 (grind (arith, common_steps, append-nil, head_says (a ∷ b ∷ c ∷ d ∷ rest) [] is.0)),
)
unit_known bytes body number size answer fits four n s e known = absurd (omega arith)
