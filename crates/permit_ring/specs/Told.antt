-- What each atomic step tells its seat or the keeper: of the step, what was known and held before, the number found, and what is known and held after.
use Rattle.std.specs.Prelude.{◌≡◌, ◌≢◌, ◌+◌, ◌-◌, ◌%◌, ◌^◌, ◌<◌, ◌≤◌, ◌∷◌}
use Rattle.permit_ring.specs.Names.{ℕ, List, [], length, drop, sum, suc, Option, Some, None, Key, PermitWord, KeeperMemo, SeatMemo, Slot, Empty, Offered, Finished, View, Sits, Keeps, Spent, offered_to, unpacked, field_of, IsPackable, IsReadable}
use Rattle.atomic_table.specs.Table.{Me, Step, rest}
use Rattle.permit_ring.specs.Closing.{AreAllBack, IsAllReaped, IsSettled, AreAllSwept, swept_of}
use Rattle.permit_ring.specs.Logs.{IsOrdered}
use Rattle.permit_ring.specs.Steps.{new_memo, first_memo, looks, claims, finishes, adds_mark, waits, reaps, reads, offers_all, misses, sweeps, welcomes, first_back, goes_on, resumed}

-- a word of a ring with n positions, which can be told from its number
pub record IsWord (n limit : ℕ) (word : PermitWord) : Type 0 where
  pub packs : IsPackable limit word
  pub free_within : word.free ≤ n
  -- a claim that was not in vain took the last free position
  pub over_few : word.over < limit
  pub few : word.claimed ≤ 2 ^ 45

module _ {T N : Type 0} where
  -- how many positions the ring of a view has
  abbrev pub positions_in : View T N → ℕ
  positions_in (Sits key memo) = key.positions
  positions_in (Keeps key k) = key.positions
  positions_in Spent = 0

  -- and how many seats it may have
  abbrev pub limit_in : View T N → ℕ
  limit_in (Sits key memo) = key.limit
  limit_in (Keeps key k) = key.limit
  limit_in Spent = 0

  -- what is admitted under the terms that the view knows
  abbrev pub AdmittedIn : {X : Type 0} → (T → X → Type 0) → View T N → X → Type 0
  AdmittedIn Admits (Sits key memo) x = Admits key.terms x
  AdmittedIn Admits (Keeps key k) x = Admits key.terms x
  AdmittedIn Admits Spent x = Unit {0}

  -- what a seat knows
  abbrev pub seat_in : View T N → SeatMemo N
  seat_in (Sits key memo) = memo
  seat_in _ = new_memo 0

  -- what the keeper knows
  abbrev pub keeper_in : View T N → KeeperMemo N
  keeper_in (Keeps key k) = k
  keeper_in _ = first_memo 0

  -- a view whose seat knows more
  abbrev pub on_seat : (SeatMemo N → SeatMemo N) → View T N → View T N
  on_seat f (Sits key memo) = Sits key (f memo)
  on_seat f v = v

  -- a view whose keeper knows more
  abbrev pub on_keeper : (KeeperMemo N → KeeperMemo N) → View T N → View T N
  on_keeper f (Keeps key k) = Keeps key (f k)
  on_keeper f v = v

  -- a seat that is split off has the next number
  abbrev pub split_right : View T N → View T N
  split_right (Keeps key k) = Sits key (new_memo k.made)
  split_right _ = Spent

  -- a join takes it back
  abbrev pub join_both : View T N → View T N → View T N
  join_both v other = on_keeper (welcomes (seat_in other)) v

  -- what the first seat that is back knows once it is out again: of its own what it knew, and of the keeper how much has been offered
  abbrev pub seat_again : Key T → KeeperMemo N → Option (SeatMemo N) → View T N
  seat_again key k None = Spent
  seat_again key k (Some memo) = Sits key (resumed k.offered memo)

  -- a release: the keeper no longer has the first seat that is back
  abbrev pub release_left : View T N → View T N
  release_left v = on_keeper (λ k. goes_on k (first_back k.back)) v

  -- and that seat is out again
  abbrev pub release_right : View T N → View T N
  release_right (Keeps key k) = seat_again key k (first_back k.back)
  release_right _ = Spent

-- what is known, and the slots in hand
abbrev pub Known : Type 0 → Type 0 → Type 0 → Type 0 → Type 0
Known O D T N = Me (Slot O D) (View T N)

module _ {O D : Type 0} where
  abbrev counted : Slot O D → ℕ → ℕ
  counted (Offered y) k = suc k
  counted _ k = 0

  -- how many slots in hand have an offered value, before the first that has none
  abbrev pub ready : List (ℕ × Slot O D) → ℕ
  ready [] = 0
  ready (x ∷ hand) = counted x.1 (ready hand)

  -- the value of the slot that was taken last
  abbrev pub first_slot : List (ℕ × Slot O D) → Slot O D
  first_slot [] = Empty
  first_slot (x ∷ hand) = x.1

module _ {O D T N : Type 0} where
  -- a look at the permit word
  abbrev pub saw_word : Step (Slot O D) → Known O D T N → ℕ → Known O D T N → Type 0
  saw_word st me n now =
      IsReadable (limit_in me.0) n
      × (now ≡ (on_seat (looks (limit_in me.0) (unpacked (limit_in me.0) n)) me.0, me.1))
      × IsOrdered (seat_in now.0)
      × ((unpacked (limit_in me.0) n).claimed ≤ 2 ^ 45)

  -- a mark of a kind of loss
  abbrev pub marked_loss : Step (Slot O D) → Known O D T N → ℕ → Known O D T N → Type 0
  marked_loss st me n now = (now ≡ (on_seat (adds_mark (st.word - 1) n) me.0, me.1)) × IsOrdered (seat_in now.0)

  -- a sweep of a kind of loss: all that was swept is at most 2^45, and all that was marked once all seats are back
  abbrev pub swept_loss : Step (Slot O D) → Known O D T N → ℕ → Known O D T N → Type 0
  swept_loss st me n now = (now ≡ (on_keeper (sweeps (st.word - 1) n) me.0, me.1))
      × (sum (swept_of (st.word - 1) (keeper_in now.0)) ≤ 2 ^ 45)
      × (AreAllBack (keeper_in me.0) → AreAllSwept (st.word - 1) (keeper_in now.0))

  -- the keeper's look at the permit word: what it has in hand is not free
  abbrev pub read_word : Step (Slot O D) → Known O D T N → ℕ → Known O D T N → Type 0
  read_word st me n now =
      IsReadable (limit_in me.0) n
      × (now ≡ (on_keeper (reads (limit_in me.0) (unpacked (limit_in me.0) n)) me.0, me.1))
      × IsWord (positions_in me.0) (limit_in me.0) (unpacked (limit_in me.0) n)
      × ((unpacked (limit_in me.0) n).free + length (keeper_in me.0).notes ≤ (keeper_in me.0).offered)

  -- a try to offer what is ready
  abbrev pub tried_offer : Step (Slot O D) → Known O D T N → ℕ → Known O D T N → Type 0
  tried_offer st me n now =
      (n ≡ st.first → (now ≡ (on_keeper (offers_all (limit_in me.0) (ready me.1)) me.0, drop (ready me.1) me.1))
      × IsWord (positions_in me.0) (limit_in me.0) (offered_to (keeper_in me.0).seen (ready me.1)))
      × (n ≢ st.first → IsReadable (limit_in me.0) n
      × (now ≡ (on_keeper (misses (limit_in me.0) (ready me.1) (unpacked (limit_in me.0) n)) me.0, me.1))
      × IsWord (positions_in me.0) (limit_in me.0) (unpacked (limit_in me.0) n)
      × (field_of (limit_in me.0) (unpacked (limit_in me.0) n) < field_of (limit_in me.0) (keeper_in me.0).seen))

  -- a claim: where a position was free, its seat has the slot with what was offered
  abbrev pub claimed_word : (T → O → Type 0) → Step (Slot O D) → Known O D T N → ℕ → Known O D T N → Type 0
  claimed_word Admits st me n now =
      IsReadable (limit_in me.0) n
      × (0 < (unpacked (limit_in me.0) n).free → (y : O) × AdmittedIn Admits me.0 y
      × (now ≡ (
        on_seat (claims (limit_in me.0) (unpacked (limit_in me.0) n)) me.0,
        ((unpacked (limit_in me.0) n).claimed % st.slots, Offered y) ∷ me.1,
      )))
      × ((unpacked (limit_in me.0) n).free ≡ 0 → now ≡ (on_seat (claims (limit_in me.0) (unpacked (limit_in me.0) n)) me.0, me.1))
      × IsOrdered (seat_in now.0)
      × ((unpacked (limit_in me.0) n).claimed ≤ 2 ^ 45)

module _ {O D T N : Type 0} (note : D → N) where
  -- the view after a finish with the value of a slot
  abbrev pub finished_with : View T N → Slot O D → View T N
  finished_with v (Finished d) = on_seat (finishes (note d)) v
  finished_with v _ = v

  -- a finish gives the slot back
  abbrev pub finished_value : Step (Slot O D) → Known O D T N → ℕ → Known O D T N → Type 0
  finished_value st me n now = (now ≡ (finished_with me.0 (first_slot me.1), rest me.1)) × IsOrdered (seat_in now.0)

  -- a look at the mark of the next ticket: where it is finished, the keeper has its slot. Else nothing changes, and once all seats are back nothing is left
  abbrev pub saw_mark : (T → N → Type 0) → Step (Slot O D) → Known O D T N → ℕ → Known O D T N → Type 0
  saw_mark Admits st me n now =
      (n ≡ length (keeper_in me.0).notes + 1 → (d : D) × AdmittedIn Admits me.0 (note d)
      × (now ≡ (on_keeper (reaps n (note d)) me.0, (length (keeper_in me.0).notes % st.slots, Finished d) ∷ me.1))
      × (length (keeper_in me.0).notes + 1 ≤ (keeper_in me.0).offered) × (length (keeper_in me.0).notes + 1 ≤ 2 ^ 45)
      × (AreAllBack (keeper_in me.0) → ¬ IsAllReaped (keeper_in me.0)))
      × (n ≢ length (keeper_in me.0).notes + 1 → (now ≡ (on_keeper (waits n) me.0, me.1))
      × (AreAllBack (keeper_in me.0) → IsSettled (keeper_in now.0)))
