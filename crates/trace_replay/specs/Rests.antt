-- The rests of a replay: when no call was under way, how many turns there were, how many calls by each caller, and what a rest that is past has left behind.
use Rattle.std.specs.Prelude.{◌≡◌, ℕ, zero, suc, ◌+◌, ◌*◌, ◌-◌, ◌<◌, ◌≤◌, ◌⊎◌, List, [], ◌∷◌, ◌++◌, length, map, sum_by, take}
use Rattle.std.specs.List.{flat_map}
use Rattle.trace_replay.specs.Names.{AreMerged, AreSettled, AskedBy, Calls, ClassRest, ClassesRested, Fate, Giver, Loss, Parts, PassMemo, Rest, RestsTold, Round, SeatMemo, SeatRest, Turn, all_losses, asks_back, calls_in, class_at, entries_before, fate_of, fates_of, get_elem?, giver_memo, lines_of, lost_between, round_ticks, some}

-- the seat of a caller at a ring, as it was released: when it had made so many calls, of which this had become, and so many positions had been offered
pub record WasReleased {N : Type 0} (released : List (SeatMemo N)) (place caller calls offered : ℕ) (fates : List Fate) : Type 0 where
  pub seat : SeatMemo N
  pub is_there : get_elem? released place ≡ some seat
  pub number_is : seat.number ≡ caller
  pub fates_are : fates ≡ map fate_of seat.log
  pub made : calls ≡ length seat.log
  pub before : List SeatRest
  pub rests_are : seat.rests ≡ before ++ record { calls = calls; offered = offered } ∷ []

-- what so many callers had asked of each class when the givers released their seats, the first of them at this place
pub record AreAsked (givers : List Giver) (place callers : ℕ) (offered : ℕ → ℕ) (asks : ℕ → ℕ → List Fate) : Type 0 where
  pub each : (i caller : ℕ) (giver : Giver) → get_elem? givers i ≡ some giver → caller < callers
      → WasReleased (giver_memo giver).released (place + caller) caller (length (asks caller i)) (offered i) (asks caller i)
  pub no_others : (i caller : ℕ) → (length givers ≤ i) ⊎ (callers ≤ caller) → asks caller i ≡ []

-- a giver released so many seats more
pub record ReleasedMore (callers : ℕ) (old new : Giver) : Type 0 where
  pub more : List (SeatMemo (Unit {0}))
  pub released_is : (giver_memo new).released ≡ (giver_memo old).released ++ more
  pub all : length more ≡ callers

-- a rest of so many callers: by then all was one merge, each pass was released then, the first at this place, and so were its seats at the classes
pub record IsPast (config : Parts) (callers place : ℕ) (turns : List Turn) (released : List PassMemo) (givers : List Giver) (rest : Rest) : Type 0 where
  pub turns_made : rest.turns ≤ length turns
  -- what had become of their calls
  pub early : List (List Fate)
  pub all : length early ≡ callers
  pub merged : AreMerged config.ring rest.calls (take rest.turns turns) (all_losses config.ring 0 early)
  pub each : (caller : ℕ) → caller < callers
      → WasReleased released (place + caller) caller (rest.calls caller) (entries_before rest.turns turns + config.ring) (fates_of early caller)
  -- the calls, and what they had asked of the classes
  pub calls : ℕ → Calls
  pub calls_are : (caller : ℕ) (seat : PassMemo) → caller < callers → get_elem? released (place + caller) ≡ some seat → calls caller ≡ calls_in seat.log
  pub no_calls : (caller : ℕ) → callers ≤ caller → calls caller ≡ []
  pub offered : ℕ → ℕ
  pub asks : ℕ → ℕ → List Fate
  pub asked : AreAsked givers place callers offered asks
  pub claimants : ℕ → List ℕ
  pub settled : AreSettled config (take rest.turns turns) calls asks claimants

-- the ticks of the turns of the first k rounds
abbrev pub ticks_before : List Round → ℕ → List ℕ
ticks_before rounds k = flat_map round_ticks (take k rounds)

-- the rest after the first k rounds, before all where there is none
abbrev pub rest_by : List Round → ℕ → Rest
rest_by rounds k = record { turns = length (ticks_before rounds k); calls = λ caller. length (lines_of caller (take k rounds)) }

-- the rest after round k
abbrev pub rest_after : List Round → ℕ → Rest
rest_after rounds k = rest_by rounds (k + 1)

-- the rest by the first k rounds as the classes knew it, over the calls of all passes and what their givers know at the end
pub record IsClassRest (config : Parts) (rounds : List Round) (givers : List Giver) (turns : List Turn) (calls : ℕ → Calls) (k : ℕ) (at : ClassRest)
    : Type 0 where
  pub rest_is : at.rest ≡ rest_by rounds k
  pub rested : ClassesRested turns (asks_back givers) at
  pub asked : AskedBy config calls (asks_back givers) at
  -- at first all buffers were free
  pub at_first : (i : ℕ) → k ≡ 0 → at.offered i ≡ (class_at config i).number
  -- later the giver of each class released the seats of all callers, round by round, and remembers what each had asked and how many were offered
  pub told : (j i caller : ℕ) (giver : Giver) → k ≡ suc j → get_elem? givers i ≡ some giver → caller < config.callers
      → WasReleased (giver_memo giver).released (j * config.callers + caller) caller (at.asks caller i) (at.offered i)
      (take (at.asks caller i) (asks_back givers caller i))

-- how many lines a round has
abbrev pub lines_in : Round → ℕ
lines_in round = sum_by length round.lines

-- how many calls of round k were lost
abbrev pub lost_in : List Round → ℕ → List Loss → ℕ
lost_in rounds k losses = lost_between (rest_by rounds k) (rest_by rounds (k + 1)) losses

-- how many lines caller i and those after it, n in all, have in these rounds
abbrev pub lines_from : ℕ → ℕ → List Round → List ℕ
lines_from i zero rounds = []
lines_from i (suc n) rounds = length (lines_of i rounds) ∷ lines_from (suc i) n rounds

-- a rest: how many turns there were, and how many calls by each caller
pub record CallerRest : Type 0 where
  pub turns : ℕ
  pub calls : List ℕ

-- rests as a manager tells them
abbrev pub as_told : List CallerRest → RestsTold
as_told rests = record { turns = map (λ rest. rest.turns) rests; calls = flat_map (λ rest. rest.calls) rests }

-- the rests of the first k rounds of n callers: before each round's last turn and after it, each caller having made its
-- lines of the rounds so far
abbrev pub rests_before : ℕ → List Round → ℕ → List CallerRest
rests_before n rounds zero = []
rests_before n rounds (suc k) =
    let turns = length (ticks_before rounds (suc k)) in
    let calls = lines_from 0 n (take (suc k) rounds) in
    rests_before n rounds k ++ record { turns = turns - 1; calls = calls } ∷ record { turns = turns; calls = calls } ∷ []

-- and of all rounds
abbrev pub all_rests : ℕ → List Round → List CallerRest
all_rests n rounds = rests_before n rounds (length rounds)

-- there is rest j, when there were so many turns, and it tells so many calls of the caller
pub record TellsCalls (n : ℕ) (rounds : List Round) (j turns caller calls : ℕ) : Type 0 where
  pub rest : CallerRest
  pub is_there : get_elem? (all_rests n rounds) j ≡ some rest
  pub turns_are : rest.turns ≡ turns
  pub calls_are : get_elem? rest.calls caller ≡ some calls

-- a caller's call was made after the turn that ended the round before round k, where there is one, and before the turn
-- that ended round k: the rest after the one tells that it was not made, and the rest before the other that it was
pub record LiesInItsRound (n : ℕ) (rounds : List Round) (k caller call : ℕ) : Type 0 where
  pub calls_before : ℕ
  pub calls_after : ℕ
  pub not_made : calls_before ≤ call
  pub made : call < calls_after
  pub after_the_last : 0 < k → TellsCalls n rounds (2 * k - 1) (length (ticks_before rounds k)) caller calls_before
  pub before_its_own : TellsCalls n rounds (2 * k) (length (ticks_before rounds (k + 1)) - 1) caller calls_after
