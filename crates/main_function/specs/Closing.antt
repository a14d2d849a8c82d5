-- The close: all passes come back, and a last turn takes what is left.
use Rattle.std.specs.Borrow.{Bor}
use Rattle.std.specs.Prelude.{◌≡◌, ℕ, ◌+◌, List, [], ◌∷◌, ◌++◌, length, map, sum, sum_by, Result, Ok, Err}
use Rattle.permit_ring.specs.{ReleasedGoOn}
use Rattle.main_function.specs.Names.{Output, Shared, Parts, welcomes, Buffer, AllOf, givers_of, filled_count, giver_memo, vacant_count, DeskMemo, PassMemo, desk_memo, lost_events, missing_in, Giver}
use Rattle.ids_types.specs.Turns.{Turn, entries_of}
use Rattle.history_spec.specs.{AreSettled}
use Rattle.law_closing.specs.{HaveAllCalls, accepted_in, calls_by, came, IsMadeFor}
use Rattle.report_api.specs.{AreTied, EachSettled, asks_back, sizes_of}
use Rattle.main_function.specs.Standing.{IsManagerOf, Stands}
use Rattle.main_function.specs.Turning.{IsQuick, Turned}
use Rattle.main_function.specs.declared.manager.Manager.{Manager}
use Rattle.main_function.specs.declared.rest.Totals.{Totals}
use Rattle.main_function.specs.declared.rest.TurnFault.{TurnFault}

-- what the desk knows once all these passes came back, the last first
abbrev pub all_back : List PassMemo → DeskMemo → DeskMemo
all_back [] desk = desk
all_back (pass ∷ passes) desk = welcomes pass (all_back passes desk)

-- the giver has so many claimants back, each in one step; no buffer came or went
pub record OnlyWelcomes (came : ℕ) (old new : Giver) : Type 0 where
  pub memo_is : giver_memo new ≡ record (giver_memo old) { back = (giver_memo new).back; moves = (giver_memo new).moves }
  pub moves_are : length (giver_memo new).moves ≡ length (giver_memo old).moves + came
  pub late_is : new.late ≡ old.late
  pub filled_is : filled_count new ≡ filled_count old
  pub vacant_is : vacant_count new ≡ vacant_count old
  pub number_is : new.number ≡ old.number

-- the giver remembers no other seat that it released
abbrev pub KeepsReleased : Giver → Giver → Type 0
KeepsReleased old new = (giver_memo new).released ≡ (giver_memo old).released

-- the totals are the sums over these turns
pub record AreSumsOf (turns : List Turn) (totals : Totals) : Type 0 where
  pub entries_are : totals.entries ≡ length (entries_of turns)
  pub lost_events_are : totals.lost_events ≡ sum (map (λ turn. turn.head.lost_events) turns)
  pub lost_contexts_are : totals.lost_contexts ≡ sum (map (λ turn. turn.head.lost_contexts) turns)

-- the totals are the numbers of the passes' accepted calls, lost reports and missing contexts
pub record AreCountsOf (passes : List PassMemo) (totals : Totals) : Type 0 where
  pub entries_are : totals.entries ≡ sum_by accepted_in passes
  pub lost_events_are : totals.lost_events ≡ sum_by lost_events passes
  pub lost_contexts_are : totals.lost_contexts ≡ sum_by (λ pass. missing_in pass.log) passes

module _ {C L : Type 0} (stands : C → Parts → List Turn → Type 0) (noted : L → Turn → L → Type 0) (kept : C → List Buffer) (shared : Shared) where
  -- these passes came back, and a last turn of this tick took all that was left
  pub record Closed (tick : ℕ) (passes : List PassMemo) (old new : Manager C L) : Type 0 where
    pub givers : List Giver
    pub welcomed : AllOf (λ i. OnlyWelcomes (length passes)) (givers_of old.desk.givers) givers
    pub turned : Turned stands noted kept tick (all_back passes (desk_memo old.desk)) givers old new
    pub are_back : (desk_memo new.desk).back ≡ map came passes
    pub released_is : (desk_memo new.desk).released ≡ (desk_memo old.desk).released
    -- each goes on from what it was when it was released
    pub go_on : ReleasedGoOn (desk_memo new.desk)
    -- for each history that it stood for, that with this turn has all calls of the passes, and nothing else
    pub all_calls : (config : Parts) (turns : List Turn) → IsMadeFor config shared → Stands stands config old turns
        → HaveAllCalls config passes (turns ++ turned.turn ∷ [])
    -- and what each caller asked of each class is what its calls show, with each claim settled
    pub classes : (config : Parts) (turns : List Turn) → IsMadeFor config shared → Stands stands config old turns → (claimants : ℕ → List ℕ)
        × AreSettled config (turns ++ turned.turn ∷ []) (calls_by passes) (asks_back (givers_of new.desk.givers)) claimants
    pub tied : AreTied (sizes_of shared) (desk_memo new.desk).back (givers_of new.desk.givers)
    pub settled : EachSettled new.desk
    pub classes_released : AllOf (λ i. KeepsReleased) (givers_of old.desk.givers) (givers_of new.desk.givers)
    pub sums : (config : Parts) (turns : List Turn) → Stands stands config old turns
        → AreSumsOf (turns ++ turned.turn ∷ []) new.totals
    pub counts : AreCountsOf passes new.totals

module _ {C L : Type 0} (stands : C → Parts → List Turn → Type 0) (noted : L → Turn → L → Type 0) (events : C → ℕ) (kept : C → List Buffer) (shared : Shared) where
  -- what a close of this tick leaves: all closed, with the output lent and the totals told; or nothing changed
  abbrev pub CloseLeaves : ℕ → List PassMemo → Manager C L → Result (Bor Output × Totals) TurnFault → Manager C L → Type 0
  CloseLeaves tick passes old (Ok closed) new = IsManagerOf events kept shared new × (closed.0.now ≡ new.out) × (closed.1 ≡ new.totals)
      × Closed stands noted kept shared tick passes old new × IsQuick shared (length passes) old.desk new.desk
  CloseLeaves tick passes old (Err fault) new = new ≡ old
