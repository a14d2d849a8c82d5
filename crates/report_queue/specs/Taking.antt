-- What the taker's calls do, step by step, and what they leave.
use Rattle.std.specs.Prelude.{◌≡◌, ℕ, ◌≤◌, ◌^◌, length, sum, Result, IfOk, IfErr}
use Rattle.permit_ring.specs.declared.answer.Unready.{Unready}
use Rattle.permit_ring.specs.{AreAllBack, AreAllSwept, OffersAll, ReapTells, Releases, sweeps, vacant_after, welcomes}
use Rattle.report_queue.specs.Closing.{IsAllTaken}
use Rattle.report_queue.specs.Items.{admits_item, item_note}
use Rattle.report_queue.specs.Names.{Item, Queue, QueueSeat, Taker}
use Rattle.report_queue.specs.Parts.{IsIdle, IsTakerOf, caller_memo, queue_positions, queue_seats, queue_terms, taker_memo, to_give_back}

module _ {P L T N : Type 0} (queue : Queue P L T N) (old : Taker P L T N) where
  -- the item of the next ticket is taken, or the mark that was read is not that ticket's and nothing is taken
  pub record Takes {M : Type 0} (note : M → N) (admits_note : T → N → Type 0) (answer : Result (Item M) Unready) (new : Taker P L T N) : Type 0 where
    pub mine : IsTakerOf queue new
    pub told : ReapTells (item_note note) (taker_memo old) answer (taker_memo new)
    pub admitted : IfOk answer (λ item. admits_item admits_note (queue_terms queue) (item_note note item))
    pub counts : to_give_back new ≡ vacant_after (to_give_back old) answer
    pub few : to_give_back new ≤ queue_positions queue
    pub within : length (taker_memo new).notes ≤ 2 ^ 45
    -- once all callers are back, it fails only where all that was put was taken, and from then on always
    pub over : IfOk answer (λ _. AreAllBack (taker_memo old) → ¬ IsAllTaken (taker_memo old))
    pub all_taken : IfErr answer (λ _. AreAllBack (taker_memo old) → IsAllTaken (taker_memo new))

  -- the lost events and then the lost contexts are swept; once all callers are back, all that they marked
  pub record Sweeps (found : ℕ × ℕ) (new : Taker P L T N) : Type 0 where
    pub mine : IsTakerOf queue new
    pub told : taker_memo new ≡ sweeps 1 found.1 (sweeps 0 found.0 (taker_memo old))
    pub counts : to_give_back new ≡ to_give_back old
    pub bounds : (sum (taker_memo new).swept0 ≤ 2 ^ 45) × (sum (taker_memo new).swept1 ≤ 2 ^ 45)
    pub all_swept : AreAllBack (taker_memo old) → AreAllSwept 0 (taker_memo new) × AreAllSwept 1 (taker_memo new)

  -- the positions of all items that were taken are free again
  pub record GivesBack (new : Taker P L T N) : Type 0 where
    pub mine : IsTakerOf queue new
    pub told : OffersAll (queue_seats queue) (to_give_back old) (taker_memo old) (taker_memo new)
    pub counts : to_give_back new ≡ 0

  -- a caller came back
  pub record Welcomes (seat : QueueSeat P L T N) (new : Taker P L T N) : Type 0 where
    pub mine : IsTakerOf queue new
    pub told : taker_memo new ≡ welcomes (caller_memo seat) (taker_memo old)
    pub counts : to_give_back new ≡ to_give_back old

  -- the first caller that is held goes on
  pub record GoesOn (seat : QueueSeat P L T N) (new : Taker P L T N) : Type 0 where
    pub mine : IsTakerOf queue new
    pub caller : IsIdle queue seat
    pub told : Releases (taker_memo old) (taker_memo new) (caller_memo seat)
    pub counts : to_give_back new ≡ to_give_back old
