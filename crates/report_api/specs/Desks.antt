-- The desk: what was taken, which passes came back, and what these had asked of the classes.
use Rattle.std.specs.Prelude.{◌≡◌, ℕ, Option, Some, is_some, true, List, [], length, map}
use mathlib.Core.Option as maybe
use mathlib.Core.Option.{some, none}
use lib.ListN.{get_elem?}
use Rattle.ids_types.specs.Fates.{Fate}
use Rattle.history_spec.specs.Follows.{Follows}
use Rattle.permit_ring.specs.{IsSettled, fate_of, first_back}
use Rattle.buffer_classes.specs.declared.giver.Giver.{Giver}
use Rattle.buffer_classes.specs.{AreGiversOf, givers_of, giver_memo}
use Rattle.buffer_classes.specs.Names as classes
use Rattle.report_queue.specs.Parts as queue
use Rattle.report_queue.specs.{IsTakerOf, taker_memo}
use Rattle.report_api.specs.Names.{DeskMemo, PassMemo}
use Rattle.report_api.specs.Passes.{IsHeldPass, IsShared, calls_in, lost_contexts, missing_in, sizes_of}
use Rattle.report_api.specs.declared.desk.Desk.{Desk}
use Rattle.report_api.specs.declared.pass.Pass.{Pass}
use Rattle.report_api.specs.declared.shared.Shared.{Shared}

-- what the desk knows of the report ring
abbrev pub desk_memo : Desk → DeskMemo
desk_memo desk = taker_memo desk.taker

-- how many items were taken whose positions are not given back
abbrev pub to_give_back : Desk → ℕ
to_give_back desk = queue.to_give_back desk.taker

-- what a claimant asked of a class, as it came back; nothing where it did not
abbrev pub back_log : maybe.Option (Option classes.SeatMemo) → List classes.Outcome
back_log (some (Some memo)) = memo.log
back_log other = []

-- of the class of a giver, where there is one
abbrev pub log_at : maybe.Option Giver → ℕ → List classes.Outcome
log_at none caller = []
log_at (some giver) caller = back_log (get_elem? (giver_memo giver).back caller)

-- what a caller asked of class i, as it came back
abbrev pub asks_back : List Giver → ℕ → ℕ → List Fate
asks_back givers caller i = map fate_of (log_at (get_elem? givers i) caller)

-- the passes that came back, with their claimants at each class, whose asks are what the calls show
pub record AreTied (sizes : List ℕ) (back : List (Option PassMemo)) (givers : List Giver) : Type 0 where
  pub as_many : (i : ℕ) (giver : Giver) → get_elem? givers i ≡ some giver → length (giver_memo giver).back ≡ length back
  pub both : (i caller : ℕ) (giver : Giver) (pass : PassMemo) → get_elem? givers i ≡ some giver → get_elem? back caller ≡ some (Some pass)
      → (memo : classes.SeatMemo) × (get_elem? (giver_memo giver).back caller ≡ some (Some memo))
  pub follows : (i caller : ℕ) (pass : PassMemo) → get_elem? back caller ≡ some (Some pass)
      → Follows sizes i (calls_in pass.log) (asks_back givers caller i)
  pub missing : (caller : ℕ) (pass : PassMemo) → get_elem? back caller ≡ some (Some pass) → lost_contexts pass ≡ missing_in pass.log

-- the desk is the one of this making, between two calls
pub record IsDeskOf (shared : Shared) (desk : Desk) : Type 0 where
  pub is_shared : IsShared shared
  pub taker : IsTakerOf shared.queue desk.taker
  pub givers : AreGiversOf shared.classes desk.givers
  pub has_spare : is_some desk.spare ≡ true
  pub tied : AreTied (sizes_of shared) (desk_memo desk).back (givers_of desk.givers)

-- the ring of each class is settled
abbrev pub EachSettled : Desk → Type 0
EachSettled desk = (i : ℕ) (giver : Giver) → get_elem? (givers_of desk.givers) i ≡ some giver → IsSettled (giver_memo giver)

-- the pass is held, and the first that the desk releases
pub record IsNextPass (shared : Shared) (desk : Desk) (pass : Pass) : Type 0 where
  pub memo : PassMemo
  pub memos : ℕ → classes.SeatMemo
  pub is_first : first_back (desk_memo desk).back ≡ Some memo
  pub firsts : (i : ℕ) (giver : Giver) → get_elem? (givers_of desk.givers) i ≡ some giver → first_back (giver_memo giver).back ≡ Some (memos i)
  pub held : IsHeldPass shared memo memos pass
