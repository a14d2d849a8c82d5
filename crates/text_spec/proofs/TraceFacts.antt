-- Rounds in lists: the last one, its tick, and the ticks of all.
use Rattle.text_spec.proofs.Names.{◌≡◌, ◌<◌, ◌≤◌, ◌^◌, ◌∷◌, ◌++◌, leb-true, nat_le, KeepUpFrom, last_tick, round_ticks, is_tick, asked_more, begun_round, ended_at, keep_up, last_from, with_last, AreTicks, Asked, ℕ, zero, suc, true, List, [], length, set, get_or, refl, sym, ap, ◌∙◌, append_assoc, arith, AllByRecursion, flat_map, list_all, le-leb, recursion_from_All, list_all-from_AllPass, Decides-and, All-append, All-from_recursion, All-set, Decides, Round}
use Rattle.text_spec.proofs.JournalFacts.{flat_map-push}
use Rattle.text_spec.proofs.WordsLemmas.{all_from}

-- ---- facts of each element

pub all_append : {A : Type 0} (P : A → Type 0) (xs ys : List A) → AllByRecursion P xs → AllByRecursion P ys → AllByRecursion P (xs ++ ys)
all_append P xs ys one other = recursion_from_All P (xs ++ ys) (All-append P xs ys (All-from_recursion P xs one) (All-from_recursion P ys other))

pub all_split : {A : Type 0} (P : A → Type 0) (xs ys : List A) → AllByRecursion P (xs ++ ys) → AllByRecursion P xs × AllByRecursion P ys
all_split P [] ys all = (tt, all)
all_split P (x ∷ xs) ys all = let rest = all_split P xs ys all.1 in ((all.0, rest.0), rest.1)

pub all_set : {A : Type 0} (P : A → Type 0) (xs : List A) (i : ℕ) (x : A) → AllByRecursion P xs → P x → AllByRecursion P (set xs i x)
all_set P xs i x all is = recursion_from_All P (set xs i x) (All-set P xs i x is (All-from_recursion P xs all))

pub all_at : {A : Type 0} (P : A → Type 0) (xs : List A) (i : ℕ) (d : A) → AllByRecursion P xs → P d → P (get_or xs i d)
all_at P [] i d all is = is
all_at P (y ∷ ys) zero d all is = all.0
all_at P (y ∷ ys) (suc i) d all is = all_at P ys i d all.1 is

-- ---- the last round

-- what holds of any rounds and a last one holds where there are rounds
pub by_last : (P : List Round → Type 0) → ((front : List Round) (last : Round) → P (front ++ last ∷ [])) → (rounds : List Round) → 0 < length rounds → P rounds
by_last P each [] some = absurd (omega arith)
by_last P each (round ∷ []) some = each [] round
by_last P each (round ∷ next ∷ rounds) some = by_last (λ rs. P (round ∷ rs)) (λ front last. each (round ∷ front) last) (next ∷ rounds) (omega arith)

pub with_last-push : (change : Round → Round) (done : List Round) (round : Round) → with_last change (done ++ round ∷ []) ≡ done ++ change round ∷ []
with_last-push change (one ∷ next ∷ done) round = ap (λ (rs : List Round). one ∷ rs) (with_last-push change (next ∷ done) round)
with_last-push change done round = refl

pub last_tick-push : (done : List Round) (round : Round) → last_tick (done ++ round ∷ []) ≡ round.after
last_tick-push (one ∷ next ∷ done) round = last_tick-push (next ∷ done) round
last_tick-push done round = refl

pub all_with_last : (P : Round → Type 0) (change : Round → Round) (rounds : List Round) → ((round : Round) → P round → P (change round)) → AllByRecursion P rounds → AllByRecursion P (with_last change rounds)
all_with_last P change [] keeps all = tt
all_with_last P change (one ∷ []) keeps all = (keeps one all.0, tt)
all_with_last P change (one ∷ next ∷ rounds) keeps all = (all.0, all_with_last P change (next ∷ rounds) keeps all.1)

-- ---- ticks in order

-- the test of ticks that keep up
pub keep_up_is : (least : ℕ) (ticks : List ℕ) → Decides (keep_up least ticks) (KeepUpFrom least ticks)
keep_up_is least [] = (λ _. tt, λ _. refl)
keep_up_is least (tick ∷ ticks) =
    Decides-and {P = least ≤ tick} {Q = KeepUpFrom tick ticks} (nat_le least tick) (keep_up tick ticks) (leb-true least tick, le-leb least tick) (keep_up_is tick ticks)

pub keep_append : (least : ℕ) (ticks more : List ℕ) → KeepUpFrom least ticks → KeepUpFrom (last_from least ticks) more → KeepUpFrom least (ticks ++ more)
keep_append least [] more keeps later = later
keep_append least (tick ∷ ticks) more keeps later = (keeps.0, keep_append tick ticks more keeps.1 later)

pub keep_split : (least : ℕ) (ticks more : List ℕ) → KeepUpFrom least (ticks ++ more) → KeepUpFrom least ticks × KeepUpFrom (last_from least ticks) more
keep_split least [] more keeps = (tt, keeps)
keep_split least (tick ∷ ticks) more keeps = let rest = keep_split tick ticks more keeps.1 in ((keeps.0, rest.0), rest.1)

pub last_from-push : (least : ℕ) (ticks : List ℕ) (tick : ℕ) (more : List ℕ) → last_from least (ticks ++ tick ∷ more) ≡ last_from tick more
last_from-push least [] tick more = refl
last_from-push least (one ∷ ticks) tick more = last_from-push one ticks tick more

-- the ticks of rounds, the last of them apart
ticks-push : (front : List Round) (round : Round) → flat_map round_ticks (front ++ round ∷ []) ≡ (flat_map round_ticks front ++ round.beside) ++ round.after ∷ []
ticks-push front round = flat_map-push round_ticks front round ∙ sym (append_assoc (flat_map round_ticks front) round.beside (round.after ∷ []))

-- it is that of the last round
pub last_of_all : (rounds : List Round) → last_from 0 (flat_map round_ticks rounds) ≡ last_tick rounds
last_of_all [] = refl
last_of_all (round ∷ rounds) =
    by_last (λ rs. last_from 0 (flat_map round_ticks rs) ≡ last_tick rs)
    (λ front last. ap (last_from 0) (ticks-push front last) ∙ last_from-push 0 (flat_map round_ticks front ++ last.beside) last.after [] ∙ sym (last_tick-push front last)) (round ∷ rounds) (omega arith)

-- ---- small ticks

abbrev pub IsSmall : ℕ → Type 0
IsSmall tick = tick ≤ 2 ^ 62

pub small_all : (ticks : List ℕ) → AllByRecursion IsSmall ticks → list_all is_tick ticks ≡ true
small_all ticks all = list_all-from_AllPass is_tick ticks (λ k d within. le-leb _ (2 ^ 62) (All-from_recursion IsSmall ticks all k d within))

-- the last of small ticks is small
pub small_last : (tick : ℕ) (ticks : List ℕ) → IsSmall tick → AllByRecursion IsSmall ticks → IsSmall (last_from tick ticks)
small_last tick [] is all = is
small_last tick (next ∷ ticks) is all = small_last next ticks all.0 all.1

-- ---- the ticks of rounds

-- a round more
pub ticks_pushed : (rounds : List Round) (callers : ℕ) (beside : List ℕ) (after : ℕ) → AreTicks rounds → AllByRecursion IsSmall (beside ++ after ∷ []) → KeepUpFrom (last_tick rounds) (beside ++ after ∷ [])
    → AreTicks (rounds ++ begun_round callers beside after ∷ [])
ticks_pushed rounds callers beside after are small keeps =
    let round = begun_round callers beside after in
    let small_ones = all_append IsSmall (flat_map round_ticks rounds) (round_ticks round) are.small small in
    let keep_up = keep_append 0 (flat_map round_ticks rounds) (round_ticks round) are.keep_up (rw (last_of_all rounds) keeps) in
    grind (arith, flat_map-push round_ticks rounds round, small_ones, keep_up)

-- a line more of a caller
pub ticks_asked : (rounds : List Round) (caller : ℕ) (asked : Asked) → AreTicks rounds → AreTicks (with_last (asked_more caller asked) rounds)
ticks_asked [] caller asked are = are
ticks_asked (round ∷ rounds) caller asked are =
    by_last (λ rs. AreTicks rs → AreTicks (with_last (asked_more caller asked) rs)) (λ front last its.
    let same = ticks-push front last ∙ sym (ticks-push front (asked_more caller asked last)) in
    rw (with_last-push (asked_more caller asked) front last) (record { small = rw same at its.small; keep_up = rw same at its.keep_up })) (round ∷ rounds) (omega arith) are

-- the last round ends later
pub ticks_ended : (rounds : List Round) (tick : ℕ) → AreTicks rounds → last_tick rounds ≤ tick → IsSmall tick → AreTicks (with_last (ended_at tick) rounds)
ticks_ended [] tick are later small = are
ticks_ended (round ∷ rounds) tick are later small =
    by_last (λ rs. AreTicks rs → last_tick rs ≤ tick → AreTicks (with_last (ended_at tick) rs)) (λ front last its after.
    let before = flat_map round_ticks front ++ last.beside in
    let smalls = all_split IsSmall before (last.after ∷ []) (rw (ticks-push front last) at its.small) in
    let keeps = keep_split 0 before (last.after ∷ []) (rw (ticks-push front last) at its.keep_up) in
    let same = ticks-push front (ended_at tick last) in
    rw (with_last-push (ended_at tick) front last) (record {
      small = rw same (all_append IsSmall before (tick ∷ []) smalls.0 (small, tt));
      keep_up = rw same (keep_append 0 before (tick ∷ []) keeps.0 (omega (arith, keeps.1.0, after, last_tick-push front last), tt));
    })) (round ∷ rounds) (omega arith) are later

-- the last tick is small
pub last_small : (rounds : List Round) → AreTicks rounds → IsSmall (last_tick rounds)
last_small rounds are = rw last_of_all at (small_last 0 (flat_map round_ticks rounds) (omega arith) are.small)

-- the ticks of a line that opens a round, after these rounds, and the last of them once more
pub opening_small : (rounds : List Round) (ticks : List ℕ) → AreTicks rounds → list_all is_tick ticks ≡ true → AllByRecursion IsSmall (ticks ++ last_from (last_tick rounds) ticks ∷ [])
opening_small rounds ticks are small =
    let all = all_from is_tick IsSmall ticks (λ tick is. leb-true tick (2 ^ 62) is) small in
    all_append IsSmall ticks (last_from (last_tick rounds) ticks ∷ []) all (small_last (last_tick rounds) ticks (last_small rounds are) all, tt)

pub opening_keeps_up : (least : ℕ) (ticks : List ℕ) → keep_up least ticks ≡ true → KeepUpFrom least (ticks ++ last_from least ticks ∷ [])
opening_keeps_up least ticks is = keep_append least ticks (last_from least ticks ∷ []) ((keep_up_is least ticks).0 is) (omega arith, tt)
