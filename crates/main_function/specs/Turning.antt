-- A turn of the manager.
use Rattle.std.specs.Borrow.{Bor}
use mathlib.Core.Option.{some}
use lib.ListN.{get_elem?}
use Rattle.std.specs.Prelude.{◌≡◌, ℕ, ◌+◌, ◌≤◌, ◌<◌, ◌^◌, List, [], ◌∷◌, ◌++◌, length, Result, Ok, Err}
use Rattle.main_function.specs.Names.{Output, IsMadeFor, Shared, Parts, Entry, Sends, handed_of, all_parcels, Buffer, giver_memo, givers_of, Desk, Turn, DeskMemo, desk_memo, Giver}
use Rattle.ids_types.specs.declared.entry.TurnHead.{TurnHead}
use Rattle.history_spec.specs.Contexts.{class_at}
use Rattle.main_function.specs.Buffers.{ReturnsBuffers}
use Rattle.main_function.specs.Reports.{MakesTurn}
use Rattle.main_function.specs.Standing.{IsManagerOf, KeepsRoom, Stands}
use Rattle.main_function.specs.declared.manager.Manager.{Manager}
use Rattle.main_function.specs.declared.rest.TurnFault.{TurnFault}
use Rattle.main_function.specs.declared.rest.TurnFault.TheVariants.{TickBack, TickTooLarge}

-- so many losses, and events held back, can be told of a turn
pub record IsSmallHead (head : TurnHead) : Type 0 where
  pub lost_events : head.lost_events ≤ 2 ^ 45
  pub lost_contexts : head.lost_contexts ≤ 2 ^ 45
  pub limited : head.limited ≤ 2 ^ 45

module _ {C L : Type 0} (stands : C → Parts → List Turn → Type 0) (noted : L → Turn → L → Type 0) (kept : C → List Buffer) where
  -- a turn of this tick was made, of a desk that knew this, with these givers
  pub record Turned (tick : ℕ) (desk : DeskMemo) (givers : List Giver) (old new : Manager C L) : Type 0 where
    pub turn : Turn
    pub taken : List (Entry Buffer)
    -- it is the last one: the manager has its head and knows how many entries it had, and its log was shown it
    pub head_is : new.head ≡ turn.head
    pub taken_is : new.taken ≡ length turn.entries
    pub noted_is : noted old.log turn new.log
    pub tick_is : turn.head.tick ≡ tick
    pub small : IsSmallHead turn.head
    pub makes : MakesTurn old.positions desk taken turn (desk_memo new.desk)
    pub back_is : (desk_memo new.desk).back ≡ desk.back
    pub released_is : (desk_memo new.desk).released ≡ desk.released
    pub buffers : ReturnsBuffers (all_parcels taken) (kept old.chain) (kept new.chain)
        givers (givers_of new.desk.givers)
    -- for each history that it stood for, it stands for that with this turn, and sends what that has more to send
    pub stands_then : (config : Parts) (turns : List Turn) → Stands stands config old turns
        → Stands stands config new (turns ++ turn ∷ [])
    pub limited_is : (config : Parts) (turns : List Turn) → Stands stands config old turns
        → turn.head.limited ≡ handed_of config turns
    pub sends : (config : Parts) (turns : List Turn) → Stands stands config old turns → Sends config turns turn new.out
    pub keeps : KeepsRoom old new
    pub rests_are : new.rests ≡ old.rests
    pub turns_are : new.turns ≡ old.turns + 1

-- how many steps a turn makes at most at the report ring: two sweeps, a mark for each item that it takes and one more, a look at the permit word, and a try for each place of which it took none and for each caller
abbrev pub most_steps : Parts → ℕ
most_steps config = config.ring + config.callers + 4

-- and at the ring of class i, which it does not sweep
abbrev pub most_class_steps : Parts → ℕ → ℕ
most_class_steps config i = (class_at config i).number + config.callers + 2

-- it made no more steps than these at any ring, and one more for each pass that came back before
pub record IsQuick (shared : Shared) (came : ℕ) (old new : Desk) : Type 0 where
  pub at_reports : (config : Parts) → IsMadeFor config shared
      → length (desk_memo new).moves ≤ length (desk_memo old).moves + most_steps config + came
  pub at_class : (config : Parts) → IsMadeFor config shared → (i : ℕ) (before after : Giver)
      → get_elem? (givers_of old.givers) i ≡ some before → get_elem? (givers_of new.givers) i ≡ some after
      → length (giver_memo after).moves ≤ length (giver_memo before).moves + most_class_steps config i + came

-- a refusal comes exactly where the tick is below the last or too large
abbrev pub TurnFails : {A : Type 0} → ℕ → ℕ → Result A TurnFault → Type 0
TurnFails last tick (Ok out) = (last ≤ tick) × (tick ≤ 2 ^ 62)
TurnFails last tick (Err TickBack) = tick < last
TurnFails last tick (Err TickTooLarge) = (last ≤ tick) × (2 ^ 62 < tick)

module _ {C L : Type 0} (stands : C → Parts → List Turn → Type 0) (noted : L → Turn → L → Type 0) (events : C → ℕ) (kept : C → List Buffer) (shared : Shared) where
  -- what a call of this tick leaves: a turn made, whose output is lent; or nothing changed
  abbrev pub TurnLeaves : ℕ → Manager C L → Result (Bor Output) TurnFault → Manager C L → Type 0
  TurnLeaves tick old (Ok out) new = IsManagerOf events kept shared new × (out.now ≡ new.out)
      × Turned stands noted kept tick (desk_memo old.desk) (givers_of old.desk.givers) old new × IsQuick shared 0 old.desk new.desk
  TurnLeaves tick old (Err fault) new = new ≡ old
