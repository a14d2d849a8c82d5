-- What stands between two rounds of a replay, what is gathered of its turns, and what its threads share.
use Rattle.std.specs.Prelude.{◌≡◌, ℕ, false, ◌+◌, ◌*◌, ◌<◌, ◌≤◌, List, [], ◌∷◌, ◌++◌, length, map, reverse, slice_index_or}
use Rattle.std.specs.List.{AllByRecursion}
use Rattle.trace_replay.specs.Names.{AllOf, AreTicks, Buffer, Closed, Giver, IsCausal, IsEmpty, IsMadeFor, IsManagerOf, IsNewManager, IsSmallHead, IsTranscript, KeepsReleased, Parts, Pass, PassMemo, RestedTurn, Shared, Stands, StaysSo, Traced, Turn, desk_memo, get_elem?, giver_memo, givers_of, last_from, last_of, queue_positions, rests_of, some, turns_of, with_rest}
use Rattle.trace_replay.specs.Rests.{IsPast, as_told, rest_after, rests_before, ticks_before}
use Rattle.trace_replay.specs.Standing.{AreAtRest, AreFew, MayAllBeAsked, calls_of_each, views_of}
use Rattle.trace_replay.specs.declared.caller.Caller.{Caller}
use Rattle.trace_replay.specs.declared.gathered.Gathered.{Gathered}
use Rattle.trace_replay.specs.declared.place.Place.{Place}
use Rattle.trace_replay.specs.declared.recorder.Recorder.{Recorder}
use Rattle.trace_replay.specs.declared.stage.Stage.{Stage}

-- the tick of a turn
abbrev pub tick_of : Turn → ℕ
tick_of turn = turn.head.tick

-- the turn tells small numbers, and has no more entries than there are positions
pub record IsSmallTurn (positions : ℕ) (turn : Turn) : Type 0 where
  pub head_is : IsSmallHead turn.head
  pub few : length turn.entries ≤ positions

-- a turn that was not missed is the last one in the history
abbrev pub gathers : Gathered → Turn → Gathered → Type 0
gathers old turn new = new.missed ≡ false → new.history.turns ≡ old.history.turns ++ turn ∷ []

module _ {C : Type 0} where
  -- the turns so far
  abbrev pub turns_in : Recorder C → List Turn
  turns_in r = r.manager.log.history.turns

  -- the passes that its desk released so far, as they then were
  abbrev pub released_by : Recorder C → List PassMemo
  released_by r = (desk_memo r.manager.desk).released

  -- the givers of the classes
  abbrev pub givers_in : Recorder C → List Giver
  givers_in r = givers_of r.manager.desk.givers

module _ {C : Type 0} (stands : C → Parts → List Turn → Type 0) where
  -- the manager stands for the turns that were gathered, and these gave what was gathered of them
  pub record IsRecordOf (config : Parts) (r : Recorder C) : Type 0 where
    pub stands_for : Stands stands config r.manager (turns_in r)
    pub transcript : IsTranscript config (turns_in r) r.transcript
    -- each turn tells how many events the limits had held back
    pub causal : IsCausal config (reverse (turns_in r))

  -- what was so before is so now, for each configuration
  abbrev pub StillRecords : Recorder C → Recorder C → Type 0
  StillRecords old new = (config : Parts) → IsRecordOf config old → IsRecordOf config new

module _ {C : Type 0} (stands : C → Parts → List Turn → Type 0) (events : C → ℕ) (kept : C → List Buffer) where
  -- the manager and its passes have just been made, and nothing was gathered
  pub record IsNewRecorder (config : Parts) (shared : Shared) (passes : List Pass) (r : Recorder C) : Type 0 where
    pub manager_is : IsNewManager stands events kept config shared passes r.manager
    pub no_turns : turns_in r ≡ []
    pub nothing_sent : IsEmpty r.transcript

  -- room was made, and nothing else was changed
  pub record StaysSame (old new : Recorder C) : Type 0 where
    pub manager_is : StaysSo stands events kept old.manager new.manager
    pub rests_are : rests_of new.manager ≡ rests_of old.manager
    pub turns_are : turns_in new ≡ turns_in old
    pub transcript_is : new.transcript ≡ old.transcript

  -- turns of these ticks were made, and were gathered
  pub record Advances (shared : Shared) (ticks : List ℕ) (old new : Recorder C) : Type 0 where
    pub manager_is : IsManagerOf events kept shared new.manager
    pub turns : List Turn
    pub turns_are : turns_in new ≡ turns_in old ++ turns
    pub ticks_are : map tick_of turns ≡ ticks
    pub small : AllByRecursion (IsSmallTurn (queue_positions shared.queue)) turns
    pub records : StillRecords stands old new
    pub rests_are : rests_of new.manager ≡ rests_of old.manager
    pub last_is : last_of new.manager ≡ last_from (last_of old.manager) ticks
    pub count_is : turns_of new.manager ≡ turns_of old.manager + length ticks

  -- and no pass came back
  pub record Continues (shared : Shared) (ticks : List ℕ) (old new : Recorder C) : Type 0 where
    pub advances : Advances shared ticks old new
    pub back_is : (desk_memo new.manager.desk).back ≡ (desk_memo old.manager.desk).back
    pub released_is : released_by new ≡ released_by old
    pub classes_are : AllOf (λ i. KeepsReleased) (givers_in old) (givers_in new)

  -- these passes were held, and a turn of this tick took all that was left. Each knows since how much had been offered then
  pub record TurnsAtRest (shared : Shared) (tick : ℕ) (passes nows : List PassMemo) (old new : Recorder C) : Type 0 where
    pub advances : Advances shared (tick ∷ []) old new
    pub as_many : length (desk_memo new.manager.desk).back ≡ length (desk_memo old.manager.desk).back
    pub rested : RestedTurn stands gathers kept shared tick passes nows old.manager new.manager
    pub gathered : turns_in new ≡ turns_in old ++ rested.closed.turned.turn ∷ []

  -- these passes came back, and a last turn of this tick took all that was left
  pub record Closes (shared : Shared) (tick : ℕ) (passes : List PassMemo) (old new : Recorder C) : Type 0 where
    pub advances : Advances shared (tick ∷ []) old new
    pub closed : Closed stands gathers kept shared tick passes old.manager new.manager
    pub gathered : turns_in new ≡ turns_in old ++ closed.turned.turn ∷ []

-- the trace can be played over a ring of so many positions: no call of its lines is refused by number, and its ticks
-- never fall
pub record CanPlay (shared : Shared) (positions : ℕ) (trace : Traced) : Type 0 where
  pub positions_are : positions ≡ queue_positions shared.queue
  pub few_callers : trace.callers ≤ 32
  pub each_caller : AllByRecursion (λ round. length round.lines ≡ trace.callers) trace.rounds
  pub asked : MayAllBeAsked shared.terms trace.rounds
  pub few : AreFew trace.callers trace.rounds
  pub ticks : AreTicks trace.rounds

module _ {C : Type 0} (events : C → ℕ) (kept : C → List Buffer) where
  -- the first k rounds were played, and no call is under way
  pub record IsBetween (shared : Shared) (trace : Traced) (k : ℕ) (callers : List Caller) (r : Recorder C) : Type 0 where
    pub manager_is : IsManagerOf events kept shared r.manager
    pub at_rest : AreAtRest shared trace.rounds k callers
    pub as_many : length callers ≡ trace.callers
    pub all : length callers ≡ length (desk_memo r.manager.desk).back
    pub ticks_are : map tick_of (turns_in r) ≡ ticks_before trace.rounds k
    pub small : AllByRecursion (IsSmallTurn (queue_positions shared.queue)) (turns_in r)
    pub rests_are : rests_of r.manager ≡ as_told (rests_before trace.callers trace.rounds k)
    pub last_is : last_of r.manager ≡ last_from 0 (ticks_before trace.rounds k)
    pub count_is : turns_of r.manager ≡ length (ticks_before trace.rounds k)
    -- each ring's keeper remembers a seat of each caller for each of these rounds
    pub released_are : length (released_by r) ≡ k * trace.callers
    pub classes_are : (i : ℕ) (giver : Giver) → get_elem? (givers_in r) i ≡ some giver → length (giver_memo giver).released ≡ k * trace.callers

module _ {C : Type 0} (stands : C → Parts → List Turn → Type 0) (events : C → ℕ) (kept : C → List Buffer) where
  -- the first k rounds were played, and what was gathered is so still
  pub record Plays (shared : Shared) (trace : Traced) (k : ℕ) (callers : List Caller) (old new : Recorder C) : Type 0 where
    pub between : IsBetween events kept shared trace k callers new
    pub records : StillRecords stands old new
    -- the rest after each of these rounds is past
    pub pasts : (config : Parts) → IsMadeFor config shared → IsRecordOf stands config old → (j : ℕ) → j < k
        → IsPast config trace.callers (j * trace.callers) (turns_in new) (released_by new) (givers_in new) (rest_after trace.rounds j)

  -- the manager rested, when its passes had made so many calls
  pub record RestsOnce (calls : List ℕ) (old new : Recorder C) : Type 0 where
    pub manager_is : StaysSo stands events kept old.manager new.manager
    pub turns_are : turns_in new ≡ turns_in old
    pub transcript_is : new.transcript ≡ old.transcript
    pub rests_are : rests_of new.manager ≡ with_rest (turns_of old.manager) calls (rests_of old.manager)

  -- a round's last turn was made at a rest of these callers, which was recorded before and after it
  pub record EndsRound (shared : Shared) (tick : ℕ) (callers nows : List Caller) (old new : Recorder C) : Type 0 where
    pub rested : Recorder C
    pub turned : Recorder C
    pub before : RestsOnce (calls_of_each callers) old rested
    pub turn : TurnsAtRest stands events kept shared tick (views_of callers) (views_of nows) rested turned
    pub after : RestsOnce (calls_of_each nows) turned new

-- the place is caller i's in a replay of this trace
pub record IsPlaceOf (shared : Shared) (trace : Traced) (i : ℕ) (place : Place) : Type 0 where
  pub shared_is : place.slot.shared.value ≡ shared
  pub trace_is : place.slot.trace.value ≡ trace
  pub number_is : place.slot.number ≡ i

-- each caller has its place
abbrev pub ArePlaces : Shared → Traced → List Place → Type 0
ArePlaces shared trace places = (i : ℕ) (d : Place) → i < length places → IsPlaceOf shared trace i (slice_index_or places i d)

-- the trace can be played, and each caller has its place
pub record IsSet {G : Type 0} (stage : Stage G) : Type 0 where
  pub can : CanPlay stage.shared.now stage.positions stage.trace.now
  pub places_are : ArePlaces stage.shared.now stage.trace.now stage.places.items
  pub all : length stage.places.items ≡ stage.trace.now.callers
