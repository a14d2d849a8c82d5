-- What the taker knows once all callers are back.
use Rattle.std.specs.Prelude.{◌≡◌, ℕ, suc, ◌<◌, ◌==◌, if◌then◌else◌, List, [], ◌∷◌, map, length, Some}
use mathlib.Core.Option.{some}
use lib.ListN.{get_elem?}
use Rattle.ids_types.specs.Fates.{AreAllDecided}
use Rattle.permit_ring.specs.{SeesRests, fate_of, got_of, HaveOneOrder, ReleasedGoOn, StandsIn}
use Rattle.report_queue.specs.Names.{KeeperMemo, SeatMemo, Item}
use Rattle.report_queue.specs.Items.{NamesItsCalls}

module _ {N : Type 0} where
  -- of items from ticket t on, those of caller i, with their tickets
  abbrev pub items_of : ℕ → ℕ → List (Item N) → List (ℕ × Item N)
  items_of i t [] = []
  items_of i t (item ∷ items) = if i == item.caller then (t, item) ∷ items_of i (suc t) items else items_of i (suc t) items

  -- caller i as it came back: each of its calls in order, lost at a front or got for an item that was taken
  pub record IsWholeCaller (fronts : List ℕ) (items : List (Item N)) (i : ℕ) (caller : SeatMemo (Item N)) : Type 0 where
    pub number_is : caller.number ≡ i
    pub calls_are : caller.view.calls ≡ length caller.log
    pub names : NamesItsCalls i caller.log
    pub decided : AreAllDecided (length items) (StandsIn fronts) (map fate_of caller.log)
    -- what was lost after a rest saw what had been offered by then
    pub sees : SeesRests caller.rests caller.log
    -- the items taken of it are those that its calls got, under the same tickets, in the order of its calls
    pub accepted : got_of caller.log ≡ items_of i 0 items

  -- all that was put was taken
  pub record IsAllTaken (k : KeeperMemo (Item N)) : Type 0 where
    pub of_callers : (t : ℕ) (item : Item N) → get_elem? k.notes t ≡ some item → item.caller < length k.back
    pub whole : (i : ℕ) (caller : SeatMemo (Item N)) → get_elem? k.back i ≡ some (Some caller)
        → IsWholeCaller k.fronts k.notes i caller
    pub order : HaveOneOrder k
    pub go_on : ReleasedGoOn k
