-- For which turns a manager stands, and what holds of it between two calls.
use Rattle.std.specs.Prelude.{◌≡◌, ℕ, ◌+◌, ◌-◌, ◌≤◌, ◌^◌, List, [], fold, length, max, min, reverse, sum, vec_capacity}
use mathlib.Core.Option.{some}
use lib.ListN.{get_elem?}
use Rattle.std.specs.List.{All}
use Rattle.main_function.specs.Names.{Output, room_of, Shared, Parts, queue_positions, last_tick, most_sent, Pass, Turn, AdmitsItem, DeskMemo, IsDeskOf, desk_memo, to_give_back, IsPassOf, pass_memo, sizes_of}
use Rattle.permit_ring.specs.Hands.{AllAdmitted}
use Rattle.buffer_classes.specs.Buffers.{Buffer}
use Rattle.chain_spec.specs.Chain.{held_count}
use Rattle.filter_chain.specs.History.{count_of}
use Rattle.filter_chain.specs.declared.log.Unlogged.{Unlogged}
use Rattle.main_function.specs.Buffers.{IsHeld}
use Rattle.main_function.specs.Reports.{ShowsHistory}
use Rattle.main_function.specs.Rests.{RestsTold, rests_told}
use Rattle.main_function.specs.declared.manager.Manager.{Manager}
use Rattle.main_function.specs.declared.rest.Sent.{Sent}
use Rattle.main_function.specs.declared.rest.Totals.{Totals}

-- the totals are those of what was taken and swept
pub record AreTotals (desk : DeskMemo) (totals : Totals) : Type 0 where
  pub entries_are : totals.entries ≡ length desk.notes
  pub lost_events_are : totals.lost_events ≡ sum desk.swept0
  pub lost_contexts_are : totals.lost_contexts ≡ sum desk.swept1

-- how many qualified events the limits hold back in these turns, but for those of the internal event that tells of them
abbrev pub held_of : Parts → List Turn → ℕ
held_of config turns = held_count config (reverse turns)

-- how many messages these turns send, and how many events the limits hold back in them, each up to 2 ^ 64 - 1
pub record AreSentBy (config : Parts) (turns : List Turn) (sent : Sent) : Type 0 where
  pub messages_are : sent.messages ≡ min (count_of config turns) (2 ^ 64 - 1)
  pub limited_are : sent.limited ≡ min (held_of config turns) (2 ^ 64 - 1)

-- the largest of some sizes, 0 where there is none
abbrev pub largest_size : List ℕ → ℕ
largest_size sizes = fold max 0 sizes

-- an output has just the room for the messages of a turn of so many entries and events, and no larger context data
abbrev pub HasRoomFor : ℕ → ℕ → ℕ → Output → Type 0
HasRoomFor largest entries events out = room_of out ≡ most_sent largest entries events

-- these are all passes of the making, caller 0 first
pub record AreAllPasses (shared : Shared) (desk : DeskMemo) (passes : List Pass) : Type 0 where
  pub all : length passes ≡ length desk.back
  pub each : (i : ℕ) (pass : Pass) → get_elem? passes i ≡ some pass → IsPassOf shared pass × ((pass_memo pass).number ≡ i)

module _ {C L : Type 0} where
  -- how many turns the manager made
  abbrev pub turns_of : Manager C L → ℕ
  turns_of m = m.turns

  -- the tick of the last
  abbrev pub last_of : Manager C L → ℕ
  last_of m = m.head.tick

  -- the rests that it recorded
  abbrev pub rests_of : Manager C L → RestsTold
  rests_of m = rests_told m.rests

  -- the manager without its log
  abbrev pub without_log : Manager C L → Manager C Unlogged
  without_log m = record {
    desk = m.desk;
    chain = m.chain;
    log = record {};
    items = m.items;
    back = m.back;
    out = m.out;
    rests = m.rests;
    totals = m.totals;
    sent = m.sent;
    head = m.head;
    taken = m.taken;
    turns = m.turns;
    positions = m.positions;
    largest = m.largest;
  }

  -- the manager stands for these turns of the configuration, the first of them first
  pub record Stands (stands : C → Parts → List Turn → Type 0) (config : Parts) (m : Manager C L) (turns : List Turn) : Type 0 where
    pub chain_stands : stands m.chain config turns
    pub reports_show : ShowsHistory m.positions (desk_memo m.desk) turns
    pub tick_is : m.head.tick ≡ last_tick turns
    pub count_is : m.turns ≡ length turns
    pub sent_are : AreSentBy config turns m.sent

  -- a turn of all positions, with the largest context data, finds room
  pub record IsRoomy (events : C → ℕ) (m : Manager C L) : Type 0 where
    pub no_items : m.items.items ≡ []
    pub items_room : m.positions ≤ vec_capacity m.items
    pub no_back : m.back.items ≡ []
    pub back_room : m.positions + events m.chain ≤ vec_capacity m.back
    pub out_room : HasRoomFor m.largest m.positions (events m.chain) m.out
    pub few_positions : m.positions ≤ 1024
    pub short : m.largest ≤ 1024

  -- the manager is the one of this making, between two calls
  pub record IsManagerOf (events : C → ℕ) (kept : C → List Buffer) (shared : Shared) (m : Manager C L) : Type 0 where
    pub desk_is : IsDeskOf shared m.desk
    pub positions_are : m.positions ≡ queue_positions shared.queue
    pub none_taken : to_give_back m.desk ≡ 0
    pub offered_is : (desk_memo m.desk).offered ≡ m.positions + length (desk_memo m.desk).notes
    pub items_within : length (desk_memo m.desk).notes ≤ 2 ^ 45
    pub admitted : All (AdmitsItem shared.terms) (desk_memo m.desk).notes
    pub totals_are : AreTotals (desk_memo m.desk) m.totals
    pub events_are : events m.chain ≡ shared.terms.events
    pub largest_is : m.largest ≡ largest_size (sizes_of shared)
    pub sizes_given : AllAdmitted (λ size. 1 ≤ size) (sizes_of shared)
    pub kept_are : All (IsHeld (sizes_of shared)) (kept m.chain)
    pub tick_within : m.head.tick ≤ 2 ^ 62
    pub roomy : IsRoomy events m

  -- the manager is one of some making
  pub record IsManager (events : C → ℕ) (kept : C → List Buffer) (m : Manager C L) : Type 0 where
    pub shared : Shared
    pub is_manager : IsManagerOf events kept shared m

  -- and these are all passes of that making
  pub record HasPasses (events : C → ℕ) (kept : C → List Buffer) (passes : List Pass) (m : Manager C L) : Type 0 where
    pub shared : Shared
    pub is_manager : IsManagerOf events kept shared m
    pub passes_are : AreAllPasses shared (desk_memo m.desk) passes

  -- the lists and the output of the manager have the room that they had
  pub record KeepsRoom (old new : Manager C L) : Type 0 where
    pub items_are : vec_capacity new.items ≡ vec_capacity old.items
    pub back_are : vec_capacity new.back ≡ vec_capacity old.back
    pub out_is : room_of new.out ≡ room_of old.out

  -- nothing but the rests is changed: the manager stands for the same turns, and is of the same making
  pub record StaysSo (stands : C → Parts → List Turn → Type 0) (events : C → ℕ) (kept : C → List Buffer)
      (old new : Manager C L) : Type 0 where
    pub is_manager : (shared : Shared) → IsManagerOf events kept shared old → IsManagerOf events kept shared new
    pub stands_then : (config : Parts) (turns : List Turn) → Stands stands config old turns → Stands stands config new turns
    pub desk_is : new.desk ≡ old.desk
    pub log_is : new.log ≡ old.log
    pub turns_are : turns_of new ≡ turns_of old
    pub last_is : last_of new ≡ last_of old
    pub keeps : KeepsRoom old new
