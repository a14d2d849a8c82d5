-- A rest: the desk holds all passes, a turn takes what is left, as at the close, and then the passes go on.
use Rattle.std.specs.Borrow.{Bor}
use Rattle.std.specs.Prelude.{◌≡◌, ℕ, ◌+◌, Some, List, ◌++◌, length, map, Result, Ok, Err}
use mathlib.Core.Option.{some}
use lib.ListN.{get_elem?}
use Rattle.main_function.specs.Names.{Output, Shared, Parts, Buffer, Turn, AllOf, Giver, giver_memo, givers_of, Desk, Pass, PassMemo, desk_memo, pass_memo, to_give_back, IsPassOf}
use Rattle.buffer_classes.specs.Names.{SeatMemo as ClassMemo}
use Rattle.permit_ring.specs.{ended, resumed}
use Rattle.report_api.specs.{IsHeldPass}
use Rattle.main_function.specs.Closing.{Closed}
use Rattle.main_function.specs.Standing.{IsManagerOf, Stands}
use Rattle.main_function.specs.Turning.{IsQuick}
use Rattle.main_function.specs.declared.manager.Manager.{Manager}
use Rattle.main_function.specs.declared.rest.TurnFault.{TurnFault}

-- what the passes know that are kept together with these
abbrev pub memos_of : {P : Type 0} → (P → Pass) → List P → List PassMemo
memos_of its passes = map (λ has. pass_memo (its has)) passes

-- the desk holds the pass of caller c, and knows of it what the memos say
pub record IsHeldAt (shared : Shared) (desk : Desk) (c : ℕ) (pass : Pass) : Type 0 where
  pub memo : PassMemo
  pub memos : ℕ → ClassMemo
  pub number_is : memo.number ≡ c
  pub back_at : get_elem? (desk_memo desk).back c ≡ some (Some memo)
  pub givers_at : (i : ℕ) (giver : Giver) → get_elem? (givers_of desk.givers) i ≡ some giver
      → get_elem? (giver_memo giver).back c ≡ some (Some (memos i))
  pub held : IsHeldPass shared memo memos pass

-- the desk holds all passes
pub record AreHeld (shared : Shared) (desk : Desk) (passes : List Pass) : Type 0 where
  pub all : length passes ≡ length (desk_memo desk).back
  pub each : (c : ℕ) (pass : Pass) → get_elem? passes c ≡ some pass → IsHeldAt shared desk c pass

-- caller c's pass, which the desk held, goes on
pub record GoesOnFrom (shared : Shared) (desk : Desk) (c : ℕ) (pass : Pass) : Type 0 where
  pub is_pass : IsPassOf shared pass
  pub number_is : (pass_memo pass).number ≡ c
  pub memo : PassMemo
  pub back_at : get_elem? (desk_memo desk).back c ≡ some (Some memo)
  pub goes_on : pass_memo pass ≡ resumed (desk_memo desk).offered memo

-- and so do all
abbrev pub HaveGoneOn : Shared → Desk → List Pass → Type 0
HaveGoneOn shared desk passes = (length passes ≡ length (desk_memo desk).back)
    × ((c : ℕ) (pass : Pass) → get_elem? passes c ≡ some pass → GoesOnFrom shared desk c pass)

-- the giver of a class released the seats of so many callers that it held, the first first, and each knows how much had been offered then
pub record ReleasedSeats (callers : ℕ) (old new : Giver) : Type 0 where
  pub nows : List ClassMemo
  pub remembers : (giver_memo new).released ≡ (giver_memo old).released ++ nows
  pub all : length nows ≡ callers
  pub go_on : (c : ℕ) (memo : ClassMemo) → get_elem? (giver_memo old).back c ≡ some (Some memo)
      → get_elem? nows c ≡ some (resumed (giver_memo old).offered memo)

-- a giver made so many moves by which seats came or went, and nothing else
pub record OnlyMovesGiver (moved : ℕ) (old new : Giver) : Type 0 where
  pub memo_is : giver_memo new ≡ record (giver_memo old) { back = (giver_memo new).back; released = (giver_memo new).released; moves = (giver_memo new).moves }
  pub moves_are : length (giver_memo new).moves ≡ length (giver_memo old).moves + moved

-- so did the desk
pub record OnlyMoves (moved : ℕ) (old new : Desk) : Type 0 where
  pub memo_is : desk_memo new ≡ record (desk_memo old) { back = (desk_memo new).back; released = (desk_memo new).released; moves = (desk_memo new).moves }
  pub moves_are : length (desk_memo new).moves ≡ length (desk_memo old).moves + moved
  pub as_many : length (desk_memo new).back ≡ length (desk_memo old).back
  pub counts : to_give_back new ≡ to_give_back old
  pub givers_are : AllOf (λ i. OnlyMovesGiver moved) (givers_of old.givers) (givers_of new.givers)

module _ {C L : Type 0} (stands : C → Parts → List Turn → Type 0) (noted : L → Turn → L → Type 0) (kept : C → List Buffer) (shared : Shared) where
  -- all these passes were held, and a turn of this tick took all that was left, as a close does. Then they went on, and
  -- know so now
  pub record Rested (tick : ℕ) (passes nows : List PassMemo) (old new : Manager C L) : Type 0 where
    pub mid : Manager C L
    pub closed : Closed stands noted kept shared tick passes old mid
    pub new_is : new ≡ record mid { desk = new.desk }
    pub moved : OnlyMoves (length passes) mid.desk new.desk
    pub stands_then : (config : Parts) (turns : List Turn) → Stands stands config mid turns → Stands stands config new turns
    -- the desk knows them as they were released
    pub remembers : (desk_memo new.desk).released ≡ (desk_memo old.desk).released ++ nows
    pub classes_remember : AllOf (λ i. ReleasedSeats (length passes)) (givers_of mid.desk.givers) (givers_of new.desk.givers)
    -- each knows how many positions were offered then
    pub as_many : length nows ≡ length passes
    pub go_on : (c : ℕ) (pass : PassMemo) → get_elem? passes c ≡ some pass
        → get_elem? nows c ≡ some (resumed (desk_memo mid.desk).offered (ended pass))

module _ {C L : Type 0} (stands : C → Parts → List Turn → Type 0) (noted : L → Turn → L → Type 0) (events : C → ℕ) (kept : C → List Buffer) (shared : Shared) where
  -- what a turn at a rest of this tick leaves: a turn made, whose output is lent; or nothing changed
  abbrev pub RestLeaves : ℕ → List PassMemo → List PassMemo → Manager C L → Result (Bor Output) TurnFault → Manager C L → Type 0
  RestLeaves tick passes nows old (Ok out) new = IsManagerOf events kept shared new × (out.now ≡ new.out)
      × Rested stands noted kept shared tick passes nows old new × IsQuick shared (length passes + length passes) old.desk new.desk
  RestLeaves tick passes nows old (Err fault) new = (new ≡ old) × (nows ≡ passes)
