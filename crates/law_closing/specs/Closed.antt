-- A desk whose rings are closed, with the history that was taken from it.
use Rattle.std.specs.Prelude.{◌≡◌, ℕ, Option, Some, List, [], ◌∷◌, map}
use mathlib.Core.Option.{some}
use lib.ListN.{get_elem?}
use Rattle.ids_types.specs.Turns.{Turn, entries_of}
use Rattle.ids_types.specs.declared.entry.Entry.{Entry}
use Rattle.ids_config.specs.Parts.{Parts}
use Rattle.history_spec.specs.{class_at, fronts_from, sizes_in}
use Rattle.permit_ring.specs.{ring_positions, ring_seats, ended}
use Rattle.buffer_classes.specs.{class_sizes, giver_memo}
use Rattle.buffer_classes.specs.declared.class.Class.{Class}
use Rattle.buffer_classes.specs.declared.class.Classes.{Classes}
use Rattle.buffer_classes.specs.declared.giver.Giver.{Giver}
use Rattle.report_queue.specs.{IsAllTaken, queue_positions, queue_seats}
use Rattle.report_queue.specs.declared.cargo.Item.{Item}
use Rattle.report_api.specs.{EachSettled, IsDeskOf, desk_memo, Act, PassMemo, plain_act}
use Rattle.report_api.specs.declared.desk.Desk.{Desk}
use Rattle.report_api.specs.declared.shared.Shared.{Shared}

-- an item that was taken, as an entry of a history
abbrev pub plain_item : Item Act → Entry (List ℕ)
plain_item item = record { caller = item.caller; call = item.call; act = plain_act item.payload }

-- The classes have the sizes of the configuration.
abbrev pub HaveSizes : Parts → Classes → Type 0
HaveSizes config classes = class_sizes classes ≡ sizes_in config

-- The ring of each class has as many positions as the configuration has buffers of it, and a seat for each caller.
abbrev pub HaveNumbers : Parts → Classes → Type 0
HaveNumbers config classes = (i : ℕ) (class : Class) → get_elem? classes.classes.items i ≡ some class
    → (ring_positions class.ring ≡ (class_at config i).number) × (ring_seats class.ring ≡ config.callers)

-- The giver of each class gives as many buffers as the configuration has of it, and made a seat for each caller.
abbrev pub GiversHaveNumbers : Parts → List Giver → Type 0
GiversHaveNumbers config givers = (i : ℕ) (giver : Giver) → get_elem? givers i ≡ some giver
    → (giver.number ≡ (class_at config i).number) × ((giver_memo giver).made ≡ config.callers)

-- what is shared was made for the configuration: of as many event buffers, for as many callers, and with classes of these sizes and numbers
pub record IsMadeFor (config : Parts) (shared : Shared) : Type 0 where
  pub positions_are : queue_positions shared.queue ≡ config.ring
  pub callers_are : queue_seats shared.queue ≡ config.callers
  pub sizes : HaveSizes config shared.classes
  pub numbers : HaveNumbers config shared.classes

-- a pass that came back
abbrev pub came : PassMemo → Option PassMemo
came pass = Some (ended pass)

-- a desk to which all passes came back, from whose rings all was taken, with the turns that show it
pub record ClosedDesk : Type 0 where
  pub config : Parts
  pub passes : List PassMemo
  pub turns : List Turn
  pub shared : Shared
  pub desk : Desk
  pub made_for : IsMadeFor config shared
  pub is_desk : IsDeskOf shared desk
  pub are_back : (desk_memo desk).back ≡ map came passes
  pub all_taken : IsAllTaken (desk_memo desk)
  pub settled : EachSettled desk
  -- the entries are the items, in the order in which they were taken, and the fronts are those of the turns
  pub shows : entries_of turns ≡ map plain_item (desk_memo desk).notes
  pub fronts_are : (desk_memo desk).fronts ≡ fronts_from config.ring turns (config.ring ∷ [])
