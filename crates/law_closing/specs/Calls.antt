-- What the calls of all passes make of a history.
use Rattle.std.specs.Prelude.{◌≡◌, ℕ, List, [], length, map, slice_index_or}
use mathlib.Core.Option.{some}
use lib.ListN.{get_elem?}
use Rattle.ids_types.specs.{Turn, entries_of, Fate}
use Rattle.ids_config.specs.Parts.{Parts}
use Rattle.history_spec.specs.{all_losses, Calls, entries_by, AreMerged, AreLegalContexts, entries_from}
use Rattle.history_spec.specs.Names.{Entry, Loss}
use Rattle.permit_ring.specs.{AreCounted, AreInOrder, Leads, SeesRests, by_seat}
use Rattle.permit_ring.specs.declared.memo.Move.{Move}
use Rattle.report_queue.specs.{got_of}
use Rattle.report_queue.specs.declared.cargo.Item.{Item}
use Rattle.report_api.specs.{Act, Got, PassMemo, calls_in, fate_of}
use Rattle.ring_core.specs.{opening}
use Rattle.ring_core.specs.Machine.{Machine}
use Rattle.law_closing.specs.Closed.{plain_item}

-- what became of the calls of a pass at the report ring
abbrev pub fates_in : PassMemo → List Fate
fates_in pass = map fate_of pass.log

-- how many of them were accepted
abbrev pub accepted_in : PassMemo → ℕ
accepted_in pass = length (got_of pass.log)

-- the calls of a caller; who has no pass made none
abbrev pub calls_by : List PassMemo → ℕ → Calls
calls_by passes caller = slice_index_or (map (λ pass. calls_in pass.log) passes) caller []

-- the losses of all passes, by caller and then by call, over a report ring of n places
abbrev pub losses_in : ℕ → List PassMemo → List Loss
losses_in n passes = all_losses n 0 (map fates_in passes)

-- the entry is that of the call of a pass that got this ticket
abbrev pub IsOfTicket : List PassMemo → ℕ → Entry (List ℕ) → Type 0
IsOfTicket passes t e = (pass : PassMemo) × (item : Item Act) × (get_elem? passes e.caller ≡ some pass)
    × (get_elem? pass.log e.call ≡ some (Got t item)) × (plain_item item ≡ e)

-- all steps of the passes at a report ring of n places stand in one order, among those of the desk
pub record StandInOneOrder (n : ℕ) (passes : List PassMemo) : Type 0 where
  -- for how many callers the ring is
  pub limit : ℕ
  pub moves : List Move
  pub machine : Machine
  -- each was possible when its turn came, and found what the words then showed
  pub reached : Leads (opening n limit) moves machine
  -- each pass made its own in the order in which they stand
  pub of_passes : (caller : ℕ) (pass : PassMemo) → get_elem? passes caller ≡ some pass → pass.moves ≡ by_seat caller moves
  -- and the claim that stands first got the lower ticket, whoever made it
  pub counted : AreCounted limit moves
  pub in_order : AreInOrder limit moves

-- the turns have all calls of the passes, and nothing else
pub record HaveAllCalls (config : Parts) (passes : List PassMemo) (turns : List Turn) : Type 0 where
  -- the entries of each caller are its accepted calls, in their order and with what they carried
  pub accepted : (caller : ℕ) → entries_by caller (entries_of turns) ≡ entries_from caller 0 (calls_by passes caller)
  -- each call is one entry or one loss, and each loss is legal
  pub merged : AreMerged config.ring (λ caller. length (calls_by passes caller)) turns (losses_in config.ring passes)
  -- the entries stand in the order in which their calls claimed their places: the one at place t is that of the call that got ticket t
  pub in_claim_order : (t : ℕ) (e : Entry (List ℕ)) → get_elem? (entries_of turns) t ≡ some e → IsOfTicket passes t e
  pub one_order : StandInOneOrder config.ring passes
  -- a call that was lost after a rest of its pass found claimed what had been offered by then
  pub sees : (caller : ℕ) (pass : PassMemo) → get_elem? passes caller ≡ some pass → SeesRests pass.rests pass.log
  -- the claims are legal, and so is each missing context
  pub contexts : AreLegalContexts config turns
