-- A claimant whose seats are held one after another, and go on one after another.
use Rattle.buffer_classes.proofs.Names.{◌≡◌, ℕ, ◌+◌, ◌<◌, List, length, set, None, ap, sym, ◌∙◌, arith, get_elem?, some, vec_capacity, there, at_length, seat_memo, giver_memo, memo_at, AllOf, Freed, Giver, Class, Classes, ClassSeat, ClaimSeat, SeatMemo, IsBufferOf, IsHisSeat, IsClaimSeatOf, Some, some-injective, set_here, set_else, rested_ordered, IsHeldAs, IsSeatOf, ended, first_back, resumed, seat_ticket, Frees, IsHeldClaimant, IsHisHeld}
use Rattle.buffer_classes.proofs.ByIndexLemmas.{Below, all_more}

-- a seat is held now, as it was
abbrev pub Held : ℕ → ClassSeat → ClassSeat → Type 0
Held i old new = IsHeldAs (ended (seat_memo old)) new

-- a seat goes on as that of a claimant
abbrev pub GoneOn : Classes → ℕ → ℕ → ℕ → ClassSeat → ClassSeat → Type 0
GoneOn classes number claims i old new = (class : Class) → get_elem? classes.classes.items i ≡ some class → IsHisSeat number claims class new

module _ {classes : Classes} (seat now : ClaimSeat) where
  -- a claimant whose seats are all held is
  pub held_claimant : IsClaimSeatOf classes seat → AllOf Held seat.seats.items now.seats.items → vec_capacity now.seats ≡ vec_capacity seat.seats
      → now.number ≡ seat.number → now.claims ≡ seat.claims → IsHeldClaimant classes (λ i. ended (memo_at seat i)) now
  held_claimant is held room number claims = record {
    all = held.as_many ∙ is.all;
    room = room ∙ is.room;
    each = λ i s at.
        let old = there seat.seats.items i (omega (arith, at_length now.seats.items i s at, held.as_many)) in
        let class = there classes.classes.items i (omega (arith, at_length seat.seats.items i old.0 old.1, is.all)) in
        grind (arith, held.each i old.0 s old.1 at, is.each i class.0 old.0 class.1 old.1, old, number, claims);
  }

-- a seat that goes on is its claimant's
pub goes_on_as : {class : Class} {number claims : ℕ} {memo : SeatMemo} {seat now : ClassSeat} {g after : Giver} → IsHisHeld number claims memo seat
    → first_back (giver_memo g).back ≡ Some memo → Frees now g after → IsSeatOf IsBufferOf class.ring now → seat_ticket now ≡ None
    → IsHisSeat number claims class now
goes_on_as {memo = memo} {now = now} {g = g} held first frees is idle =
    let same : frees.told.memo ≡ memo = grind (arith, frees.told.is_first, first) in
    let ordered = rested_ordered memo (giver_memo g).offered held.ordered held.held.none_held held.held.not_armed in
    let seat_is : seat_memo now ≡ resumed (giver_memo g).offered memo = frees.told.seat_is ∙ ap (resumed (giver_memo g).offered) same in
    grind (arith, held, is, idle, ordered, seat_is)

-- the givers after one more released its seat
module _ (seat now : ClaimSeat) (i : ℕ) (s : ClassSeat) (is : now.seats.items ≡ set seat.seats.items i s) (low : i < length seat.seats.items) where
  pub freed_more : {olds mids : List Giver} (g after : Giver) → get_elem? mids i ≡ some g → Frees s g after
      → AllOf (Below (Freed seat) i) olds mids → AllOf (Below (Freed now) (i + 1)) olds (set mids i after)
  freed_more g after here did before =
      let set_there = set_here seat.seats.items i s low in
      all_more i g after here before
      (λ old was. ((λ _ other at. let same = some-injective s other (sym set_there ∙ (rw is at at)) in grind (arith, was, did, same)), λ past. absurd (omega arith)))
      (λ j old then away was. (
        (λ below other at. was.0 (omega (arith, away, below)) other (rw (is, set_else seat.seats.items i j s away) at at)),
        λ past. was.1 (omega arith),
      ))
