-- What the rests of a replay tell, and how those that are past stay so.
use Rattle.trace_replay.proofs.Names.{AllOf, AreAsked, AreMerged, AreSettled, AreTied, AskedBy, Caller, CallerRest, Calls, ClassRest, ClassesRested, Fate, Giver, GoesOn, IsAtRest, IsPast, IsSettled, KeepsReleased, LiesInItsRound, List, Option, Parts, PassMemo, ReleasedMore, ReleasedSeats, Rest, Rested, Round, SeatMemo, SeesRests, Shared, TellsCalls, Turn, WasReleased, [], add-one, all_lost, all_then, ap, append-nil, append_assoc, arith, as_told, asked_by_rest, asks_back, at_last, at_length, at_longer, at_map, below_or, call_of, calls_by, calls_in, calls_of_each, came, cases_lt, ended, entries_before, entries_of, fate_of, fates_in, fates_of, flat_map-append, get_elem?, get_or_past, giver_memo, inl, inr, length, length-append, length-map, lines_before, lines_from, lines_of, loss_is, losses_in, lost, map, map-append, nothing_past, or_at, refl, rests_before, resumed, slice_index_or, some, some-injective, stands_own, subst, suc, sym, take, take-append-le, take-append_seam, take-nil, take_all, there, ticks_before, with_rest, zero, ℕ, ◌*◌, ◌++◌, ◌+◌, ◌-◌, ◌<◌, ◌∙◌, ◌∷◌, ◌≡◌, ◌≤◌, ◌⊎◌, none}
use Rattle.permit_ring.proofs.LogLemmas.{lost_in as lost_there}
use mathlib.Core.Option as maybe

-- ---- callers

-- callers that are at rest made as many calls as each has lines
pub calls_made : (shared : Shared) (rounds : List Round) (from : ℕ) (callers : List Caller)
    → ((i j : ℕ) (caller : Caller) → j ≡ from + i → get_elem? callers i ≡ some caller → IsAtRest shared j (lines_of j rounds) caller)
    → calls_of_each callers ≡ lines_from from (length callers) rounds
calls_made shared rounds from [] each = refl
calls_made shared rounds from (caller ∷ callers) each =
    let rest = calls_made shared rounds (suc from) callers (λ i j c is. each (suc i) j c (omega (arith, is))) in
    let its = each 0 from caller (omega arith) refl in
    let one = its.is_pass.at.caller.calls_are ∙ its.listed.played.calls_are in cc

-- ---- places

pub at_behind : {A : Type 0} (xs ys : List A) (i j : ℕ) → i ≡ length xs + j → get_elem? (xs ++ ys) i ≡ get_elem? ys j
at_behind [] ys i j is = let same : i ≡ j = omega (arith, is) in ap (get_elem? ys) same
at_behind (x ∷ xs) ys zero j is = absurd (omega (arith, is))
at_behind (x ∷ xs) ys (suc i) j is = at_behind xs ys i j (omega (arith, is))

line_at_place : (from n i j : ℕ) (rounds : List Round) → i < n → j ≡ from + i → get_elem? (lines_from from n rounds) i ≡ some (length (lines_of j rounds))
line_at_place from zero i j rounds low is = absurd (omega (arith, low))
line_at_place from (suc n) zero j rounds low is = ap (λ k. some (length (lines_of k rounds))) (omega (arith, is))
line_at_place from (suc n) (suc i) j rounds low is = line_at_place (suc from) n i j rounds (omega (arith, low)) (omega (arith, is))

-- ---- rests

-- two rests more, as the manager tells them
pub two_told : (rests : List CallerRest) (calls lines : List ℕ) (t1 t3 m1 m3 : ℕ) → t1 ≡ m1 → t3 ≡ m3 → calls ≡ lines
    → with_rest t3 calls (with_rest t1 calls (as_told rests)) ≡ as_told (rests ++ record { turns = m1; calls = lines } ∷ record { turns = m3; calls = lines } ∷ [])
two_told rests calls lines t1 t3 m1 m3 first second same =
    rw (first, second, same) (simp (append_assoc, map-append, flat_map-append, append-nil))

module _ (n : ℕ) (rounds : List Round) where
  -- the two rests of a round, which stand after those of the rounds before
  abbrev two_rests : ℕ → List CallerRest
  two_rests k =
      let turns = length (ticks_before rounds (suc k)) in
      let calls = lines_from 0 n (take (suc k) rounds) in
      record { turns = turns - 1; calls = calls } ∷ record { turns = turns; calls = calls } ∷ []

  two_each : (k : ℕ) → length (rests_before n rounds k) ≡ 2 * k
  two_each zero = refl
  two_each (suc k) = simp length-append (omega (arith, two_each k))

  -- and before those of the rounds after
  rest_at : (all k e j : ℕ) (rest : CallerRest) → k < all → j ≡ 2 * k + e → get_elem? (two_rests k) e ≡ some rest → get_elem? (rests_before n rounds all) j ≡ some rest
  rest_at zero k e j rest less at is = absurd (omega (arith, less))
  rest_at (suc all) k e j rest less at is = elim (cases_lt k all) [
    | inl below ↦ at_longer (rests_before n rounds all) (two_rests all) j rest (rest_at all k e j rest below at is)
    | inr past ↦
        let same : all ≡ k = omega (arith, less, past) in
        rw same (at_behind (rests_before n rounds k) (two_rests k) j e (omega (arith, at, two_each k)) ∙ is)
  ]

  -- rest e of round k tells what each caller had called
  tells : (k e j caller turns : ℕ) → k < length rounds → caller < n → j ≡ 2 * k + e
      → get_elem? (two_rests k) e ≡ some (record { turns = turns; calls = lines_from 0 n (take (suc k) rounds) })
      → TellsCalls n rounds j turns caller (length (lines_before rounds (suc k) caller))
  tells k e j caller turns less low at is = record {
    rest = record { turns = turns; calls = lines_from 0 n (take (suc k) rounds) };
    is_there = rest_at (length rounds) k e j _ less at is;
    turns_are = refl;
    calls_are = line_at_place 0 n caller caller (take (suc k) rounds) low (omega arith);
  }

  -- a call lies between the turns that ended the round before and its own
  pub lies_in_its_round : (k caller call : ℕ) → k < length rounds → caller < n → length (lines_before rounds k caller) ≤ call
      → call < length (lines_before rounds (k + 1) caller) → LiesInItsRound n rounds k caller call
  lies_in_its_round k caller call less low from below = record {
    calls_before = length (lines_before rounds k caller);
    calls_after = length (lines_before rounds (k + 1) caller);
    not_made = from;
    made = below;
    after_the_last = λ begun.
        let same : suc (k - 1) ≡ k = omega (arith, begun) in
        rw same at (tells (k - 1) 1 (2 * k - 1) caller _ (omega (arith, less)) low (omega (arith, begun)) refl);
    before_its_own = rw add-one (tells k 0 (2 * k) caller _ less low (omega arith) refl);
  }

-- ---- one seat

-- what had become of so many calls is the first part of what has now, and a later call that was lost saw what had been offered
pub record IsPartOf (calls offered : ℕ) (fates now : List Fate) : Type 0 where
  pub first : fates ≡ take calls now
  pub within : calls ≤ length now
  pub sees : (j claimed : ℕ) → get_elem? now j ≡ some (lost claimed) → calls ≤ j → offered ≤ claimed

-- so many are the first part of more
front_is : {A : Type 0} {n : ℕ} {xs now : List A} (more : List A) → length xs ≡ n → now ≡ xs ++ more → xs ≡ take n now
front_is {xs = xs} more long longer = rw (longer, ← long) (sym (take-append_seam xs more))

module _ {N : Type 0} where
  -- a seat that was released is remembered still
  released_still : {released then : List (SeatMemo N)} {place caller calls offered : ℕ} {fates : List Fate} (more : List (SeatMemo N)) → then ≡ released ++ more
      → WasReleased released place caller calls offered fates → WasReleased then place caller calls offered fates
  released_still {released} {then} {place} more longer was =
      let at : get_elem? then place ≡ some was.seat = rw longer (at_longer released more place was.seat was.is_there) in search at

  -- one that has just been
  pub just_released : {calls offered : ℕ} (before nows : List (SeatMemo N)) (caller : ℕ) (memo : SeatMemo N) → get_elem? nows caller ≡ some (resumed offered memo)
      → memo.number ≡ caller → calls ≡ length memo.log → calls ≡ memo.view.calls
      → WasReleased (before ++ nows) (length before + caller) caller calls offered (map fate_of memo.log)
  just_released {offered = offered} before nows caller memo is number made calls = record {
    seat = resumed offered memo;
    is_there = at_behind before nows (length before + caller) caller refl ∙ is;
    number_is = number;
    fates_are = refl;
    made = made;
    before = memo.rests;
    rests_are = ap (λ (calls : ℕ). memo.rests ++ record { calls = calls; offered = offered } ∷ []) (sym calls);
  }

  pub part_of : {released : List (SeatMemo N)} {place caller calls offered : ℕ} {fates : List Fate} (was : WasReleased released place caller calls offered fates)
      (now : SeatMemo N) → GoesOn was.seat now → SeesRests now.rests now.log → IsPartOf calls offered fates (map fate_of now.log)
  part_of {calls = calls} was now on sees =
      let then = map fate_of was.seat.log in
      let longer : map fate_of now.log ≡ then ++ map fate_of on.calls = ap (map fate_of) on.log_is ∙ map-append fate_of was.seat.log on.calls in
      let long : length then ≡ calls = length-map was.seat.log fate_of ∙ sym was.made in
      let rested = ap (λ rests. get_elem? rests (length was.before)) (on.rests_are ∙ ap (λ rests. rests ++ on.rests) was.rests_are)
      ∙ at_longer _ on.rests (length was.before) _ (at_last was.before _ (length was.before) refl) in
      record {
        first = was.fates_are ∙ front_is _ long longer;
        within = omega (arith, long, ap length longer, length-append then (map fate_of on.calls));
        sees = λ j claimed at low. sees (length was.before) j claimed _ rested low (lost_there now.log j claimed at);
      }

-- ---- all passes

-- what is told of one pass among what is of all, as its fates or its calls
pub of_one : {A B : Type 0} (f : A → B) (xs : List A) (i : ℕ) (d : B) (x : A) → get_elem? xs i ≡ some x → slice_index_or (map f xs) i d ≡ f x
of_one f xs i d x at = or_at (map f xs) i d (f x) (at_map f xs i x at)

pub of_none : {A B : Type 0} (f : A → B) (xs : List A) (i : ℕ) (d : B) → length xs ≤ i → slice_index_or (map f xs) i d ≡ d
of_none f xs i d past = get_or_past (map f xs) i d (rw length-map past)

-- the calls of a pass
abbrev pub calls_in_log : PassMemo → Calls
calls_in_log pass = calls_in pass.log

module _ {config : Parts} {callers place : ℕ} {turns : List Turn} {released : List PassMemo} {givers : List Giver} {rest : Rest} where
  -- a rest that is past stays so
  pub past_still : (more : List Turn) (others : List PassMemo) {now : List Turn} {then : List PassMemo} {later : List Giver} {n : ℕ}
      → IsPast config callers place turns released givers rest → now ≡ turns ++ more → then ≡ released ++ others → AllOf (λ i. ReleasedMore n) givers later
      → IsPast config callers place now then later rest
  past_still more others {now} {then} {later} was longer and_more grown =
      let made = was.turns_made in
      let same : take rest.turns now ≡ take rest.turns turns = ap (take rest.turns) longer ∙ take-append-le rest.turns turns more made in
      record {
        turns_made = rw longer (omega (arith, made, length-append turns more));
        early = was.early;
        all = was.all;
        merged = rw same was.merged;
        each = λ caller low. rw same (released_still others and_more (was.each caller low));
        calls = was.calls;
        calls_are = λ caller seat low at.
            let its = was.each caller low in
            let one = some-injective _ _ (sym (at_longer released others (place + caller) its.seat its.is_there) ∙ rw and_more at at) in
            was.calls_are caller seat low (rw one at its.is_there);
        no_calls = was.no_calls;
        offered = was.offered;
        asks = was.asks;
        asked = record {
          each = λ i caller giver at low.
              let old = there givers i (omega (arith, grown.as_many, at_length later i giver at)) in
              let did = grown.each i old.0 giver old.1 at in released_still did.more did.released_is (was.asked.each i caller old.0 old.1 low);
          no_others = rw grown.as_many was.asked.no_others;
        };
        claimants = was.claimants;
        settled = rw same was.settled;
      }

-- nobody else asked anything
pub none_asked : {sizes : List ℕ} {back : List (Option PassMemo)} {givers : List Giver} (passes : List PassMemo) → back ≡ map came passes → AreTied sizes back givers
    → (i caller : ℕ) → (length givers ≤ i) ⊎ (length passes ≤ caller) → asks_back givers caller i ≡ []
none_asked {givers = givers} passes are tied i caller beyond = elim (below_or givers i) [
  | inl giver ↦
      let out : length passes ≤ caller = grind (arith, beyond, at_length givers i giver.0 giver.1) in
      let none = nothing_past (giver_memo giver.0).back caller (omega (arith, out, tied.as_many i giver.0 giver.1, ap length are, length-map passes came)) in
      rw (giver.1, none) refl
  | inr past ↦ rw (nothing_past givers i past) refl
]

-- a rest that has just been
pub newly_past : {config : Parts} {callers : ℕ} {turns : List Turn} {givers : List Giver} (before passes nows : List PassMemo) {rest : Rest} {offered : ℕ}
    {class_offered : ℕ → ℕ} {asks : ℕ → ℕ → List Fate} → AreMerged config.ring rest.calls turns (losses_in config.ring passes) → rest.turns ≡ length turns → length passes ≡ callers
    → ((caller : ℕ) (pass : PassMemo) → get_elem? passes caller ≡ some pass → (rest.calls caller ≡ length pass.log) × (rest.calls caller ≡ pass.view.calls) × (pass.number ≡ caller))
    → offered ≡ length (entries_of turns) + config.ring
    → ((caller : ℕ) (pass : PassMemo) → get_elem? passes caller ≡ some pass → get_elem? nows caller ≡ some (resumed offered (ended pass)))
    → AreAsked givers (length before) callers class_offered asks → (claimants : ℕ → List ℕ) × AreSettled config turns (calls_by passes) asks claimants
    → IsPast config callers (length before) turns (before ++ nows) givers rest
newly_past {turns = turns} before passes nows {rest} {offered} {class_offered} {asks} merged at_end all calls is goes asked settled =
    let whole : take rest.turns turns ≡ turns = take_all rest.turns turns (omega (arith, at_end)) in
    record {
      turns_made = omega (arith, at_end);
      early = map fates_in passes;
      all = length-map passes fates_in ∙ all;
      merged = rw whole merged;
      each = λ caller low.
          let its = there passes caller (omega (arith, low, all)) in
          let so = calls caller its.0 its.1 in
          rw (whole, of_one fates_in passes caller [] its.0 its.1, ← is) (just_released before nows caller (ended its.0) (goes caller its.0 its.1) so.2 so.0 so.1);
      calls = calls_by passes;
      calls_are = λ caller seat low at.
          let its = there passes caller (omega (arith, low, all)) in
          let one = some-injective _ _ (sym (at_behind before nows (length before + caller) caller refl ∙ goes caller its.0 its.1) ∙ at) in
          rw (← one) (of_one calls_in_log passes caller [] its.0 its.1);
      no_calls = λ caller past. of_none calls_in_log passes caller [] (omega (arith, past, all));
      offered = class_offered;
      asks = asks;
      asked = asked;
      claimants = settled.0;
      settled = rw whole settled.1;
    }

module _ {config : Parts} {callers place : ℕ} {turns : List Turn} {released : List PassMemo} {givers : List Giver} {rest : Rest} (passes : List PassMemo)
    (many : length passes ≡ callers) (past : IsPast config callers place turns released givers rest)
    (go : (p : ℕ) (was pass : PassMemo) → get_elem? released p ≡ some was → get_elem? passes was.number ≡ some pass → GoesOn was pass)
    (sees : (caller : ℕ) (pass : PassMemo) → get_elem? passes caller ≡ some pass → SeesRests pass.rests pass.log) where
  -- what had become of the calls of each pass by then
  pass_part : (caller : ℕ) (low : caller < callers) (pass : PassMemo) → get_elem? passes caller ≡ some pass
      → IsPartOf (rest.calls caller) (entries_before rest.turns turns + config.ring) (fates_of past.early caller) (fates_in pass)
  pass_part caller low pass at =
      let had = past.each caller low in part_of had pass (go (place + caller) had.seat pass had.is_there (rw had.number_is at)) (sees caller pass at)

  firsts : (caller : ℕ) → fates_of past.early caller ≡ take (rest.calls caller) (fates_of (map fates_in passes) caller)
  firsts caller = elim (below_or passes caller) [
    | inl its ↦ rw (of_one fates_in passes caller [] its.0 its.1) (pass_part caller (omega (arith, many, at_length passes caller its.0 its.1)) its.0 its.1).first
    | inr beyond ↦
        get_or_past past.early caller [] (omega (arith, past.all, many, beyond)) ∙ sym (rw (of_none fates_in passes caller [] beyond) (take-nil (rest.calls caller)))
  ]

  -- so the moment was a rest
  pub past_rested : Rested config.ring turns (losses_in config.ring passes) rest
  past_rested =
      let n = config.ring in
      let fates = map fates_in passes in
      record {
        settled = rw (all_lost n rest 0 fates past.early (past.all ∙ sym many ∙ sym (length-map passes fates_in)) (λ c i is. let same : c ≡ i = omega (arith, is) in rw same (firsts i))) past.merged;
        sees = λ loss stands after.
            let its = loss_is n loss.caller 0 (fates_of fates loss.caller) loss (stands_own n fates loss stands) in
            elim (below_or passes loss.caller) [
              | inl pass ↦
                  let part = pass_part loss.caller (omega (arith, many, at_length passes loss.caller pass.0 pass.1)) pass.0 pass.1 in
                  omega (arith, part.sees its.0 its.1 (subst (λ xs. get_elem? xs its.0 ≡ some (lost its.1)) (of_one fates_in passes loss.caller [] pass.0 pass.1) its.2) (omega (arith, after, its.3)), its.4)
              | inr beyond ↦
                  let none : get_elem? [] its.0 ≡ some (lost its.1) = subst (λ xs. get_elem? xs its.0 ≡ some (lost its.1)) (of_none fates_in passes loss.caller [] beyond) its.2 in absurd (cc)
            ];
      }

  -- the calls by then are the first ones
  calls_part : (caller : ℕ) → past.calls caller ≡ take (rest.calls caller) (calls_by passes caller)
  calls_part caller = elim (below_or passes caller) [
    | inl its ↦
        let low : caller < callers = omega (arith, many, at_length passes caller its.0 its.1) in
        let had = past.each caller low in
        let on = go (place + caller) had.seat its.0 had.is_there (rw had.number_is its.1) in
        let then = calls_in had.seat.log in
        let long : length then ≡ rest.calls caller = length-map had.seat.log call_of ∙ sym had.made in
        past.calls_are caller had.seat low had.is_there
        ∙ front_is _ long (of_one calls_in_log passes caller [] its.0 its.1 ∙ ap calls_in on.log_is ∙ map-append call_of had.seat.log on.calls)
    | inr beyond ↦
        past.no_calls caller (omega (arith, many, beyond)) ∙ sym (rw (of_none calls_in_log passes caller [] beyond) (take-nil (rest.calls caller)))
  ]

  module _ {sizes : List ℕ} {back : List (Option PassMemo)} (are : back ≡ map came passes) (tied : AreTied sizes back givers)
      (settled : (i : ℕ) (giver : Giver) → get_elem? givers i ≡ some giver → IsSettled (giver_memo giver)) where
    -- what each caller had asked of each class by then
    abbrev Part : ℕ → ℕ → Type 0
    Part caller i = IsPartOf (length (past.asks caller i)) (past.offered i) (past.asks caller i) (asks_back givers caller i)

    no_part : (caller i : ℕ) → (length givers ≤ i) ⊎ (callers ≤ caller) → Part caller i
    no_part caller i beyond = rw (past.asked.no_others i caller beyond, none_asked passes are tied i caller (rw (← many) at beyond)) (record { first = refl; within = omega arith; sees = λ j claimed at low. cc })

    class_part : (caller i : ℕ) → Part caller i
    class_part caller i =
        elim (below_or givers i) [
          | inl giver ↦ elim (cases_lt caller callers) [
            | inl low ↦
                let pass = there passes caller (omega (arith, low, many)) in
                let memo = tied.both i caller giver.0 (ended pass.0) giver.1 (rw are (at_map came passes caller pass.0 pass.1)) in
                let its = settled i giver.0 giver.1 in
                let was = past.asked.each i caller giver.0 giver.1 low in
                let on = its.go_on (place + caller) was.seat memo.0 was.is_there (rw was.number_is memo.1) in
                rw (giver.1, memo.1) (part_of was memo.0 on (its.logs_are caller memo.0 memo.1).sees)
            | inr out ↦ no_part caller i (inr out)
          ]
          | inr out ↦ no_part caller i (inl out)
        ]

    abbrev pub class_rest : ClassRest
    class_rest = record { rest = rest; offered = past.offered; asks = λ caller i. length (past.asks caller i) }

    -- so it was a rest for the classes
    pub past_asked : ClassesRested turns (asks_back givers) class_rest × AskedBy config (calls_by passes) (asks_back givers) class_rest
    past_asked = asked_by_rest config turns (calls_by passes) past.calls (asks_back givers) past.asks past.claimants class_rest past.settled calls_part
        (λ caller i. (class_part caller i).first) (λ caller i. (class_part caller i).within) (λ caller i place claimed at low. (class_part caller i).sees place claimed at low)

    pub past_told : (i caller : ℕ) (giver : Giver) → get_elem? givers i ≡ some giver → caller < callers
        → WasReleased (giver_memo giver).released (place + caller) caller (length (past.asks caller i)) (past.offered i)
        (take (length (past.asks caller i)) (asks_back givers caller i))
    past_told i caller giver at low = subst (λ fates. WasReleased (giver_memo giver).released (place + caller) caller (length (past.asks caller i)) (past.offered i) fates)
        (class_part caller i).first (past.asked.each i caller giver at low)

-- how many buffers were offered by a giver, if there is one
abbrev pub offered_at : maybe.Option Giver → ℕ
offered_at none = 0
offered_at (some giver) = (giver_memo giver).offered

module _ {sizes : List ℕ} {back : List (Option PassMemo)} (passes : List PassMemo) {olds mids news : List Giver} (are : back ≡ map came passes) (tied : AreTied sizes back mids)
    (settled : (i : ℕ) (giver : Giver) → get_elem? mids i ≡ some giver → IsSettled (giver_memo giver)) (keeps : AllOf (λ i. KeepsReleased) olds mids)
    (seats : AllOf (λ i. ReleasedSeats (length passes)) mids news) where
  -- each giver released a seat of each pass
  pub released_more : AllOf (λ i. ReleasedMore (length passes)) olds news
  released_more = all_then keeps seats (λ i old mid new kept did.
      record { more = did.nows; released_is = did.remembers ∙ ap (λ released. released ++ did.nows) kept; all = did.all })

  -- and these know what their callers had asked
  pub asked_at_rest : (place : ℕ) → ((i : ℕ) (giver : Giver) → get_elem? olds i ≡ some giver → length (giver_memo giver).released ≡ place)
      → AreAsked news place (length passes) (λ i. offered_at (get_elem? mids i)) (asks_back mids)
  asked_at_rest place all = record {
    each = λ i caller giver at low.
        let mid = there mids i (omega (arith, seats.as_many, at_length news i giver at)) in
        let old = there olds i (omega (arith, keeps.as_many, at_length mids i mid.0 mid.1)) in
        let did = seats.each i mid.0 giver mid.1 at in
        let long : length (giver_memo mid.0).released ≡ place = ap length (keeps.each i old.0 mid.0 old.1 mid.1) ∙ all i old.0 old.1 in
        let pass = there passes caller low in
        let memo = tied.both i caller mid.0 (ended pass.0) mid.1 (rw are (at_map came passes caller pass.0 pass.1)) in
        let log = (settled i mid.0 mid.1).logs_are caller memo.0 memo.1 in
        let made = length-map memo.0.log fate_of in
        rw (mid.1, memo.1, did.remembers, ← long) (just_released (giver_memo mid.0).released did.nows caller memo.0 (did.go_on caller memo.0 memo.1) log.number_is made (made ∙ sym log.calls_are));
    no_others = λ i caller beyond. none_asked passes are tied i caller (rw seats.as_many at beyond);
  }
