-- What the desk shows of a history, and what one more turn does to it.
use Rattle.std.specs.Prelude.{◌≡◌, ℕ, ◌≤◌, List, [], ◌∷◌, length, map}
use Rattle.ids_types.specs.{entry_by, Turn, entries_of}
use Rattle.main_function.specs.Names.{plain_item, OffersAll, ReapsToEnd, sweeps, Entry}
use Rattle.buffer_classes.specs.Buffers.{Buffer}
use Rattle.history_spec.specs.Fronts.{fronts_from}
use Rattle.report_api.specs.Names.{DeskMemo}
use Rattle.main_function.specs.Taking.{items_of}

-- the bytes that a buffer holds
abbrev pub held : Buffer → List ℕ
held buf = buf.bytes

-- the items taken, the losses swept and the fronts are those of these turns
pub record ShowsHistory (positions : ℕ) (desk : DeskMemo) (turns : List Turn) : Type 0 where
  pub items_are : map plain_item desk.notes ≡ entries_of turns
  pub lost_events_are : desk.swept0 ≡ map (λ turn. turn.head.lost_events) turns
  pub lost_contexts_are : desk.swept1 ≡ map (λ turn. turn.head.lost_contexts) turns
  pub fronts_are : desk.fronts ≡ fronts_from positions turns (positions ∷ [])

-- the lost events and then the lost contexts are swept, as many as the turn tells
abbrev pub sweeps_for : Turn → DeskMemo → DeskMemo
sweeps_for turn desk = sweeps 1 turn.head.lost_contexts (sweeps 0 turn.head.lost_events desk)

-- a turn, step by step: the losses are swept, then the next items are taken, in order, up to one that is not ready, and then their places are given back
pub record MakesTurn (positions : ℕ) (old : DeskMemo) (taken : List (Entry Buffer)) (turn : Turn) (new : DeskMemo) : Type 0 where
  pub took : DeskMemo
  pub takes : ReapsToEnd (items_of taken) (sweeps_for turn old) took
  pub gives : OffersAll old.made (length taken) took new
  pub entries_are : turn.entries ≡ map (entry_by held) taken
  pub few : length taken ≤ positions
