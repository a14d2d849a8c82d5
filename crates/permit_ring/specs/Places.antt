-- Where the tickets, the calls and the values of a ring stand.
use Rattle.std.specs.Prelude.{◌≡◌, ◌≢◌, ◌<◌, ◌≤◌, ◌⊎◌}
use Rattle.permit_ring.specs.Names.{ℕ, true, List, Some, some, get_elem?, Key, KeeperMemo, Move, Outcome, Lost, Got, SeatMemo, Slot, Empty, Offered, Finished, View, Sits, Keeps, Machine, opening, Holds, IsRing}
use Rattle.permit_ring.specs.Logs.{start_of, end_of}
use Rattle.permit_ring.specs.Moves.{Leads}
use Rattle.permit_ring.specs.Rule.{words_of}

-- the words show a state of the ring machine that the moves led to
pub record ShowsRing {T : Type 0} (key : Key T) (words : List ℕ) (moves : List Move) (m : Machine) : Type 0 where
  pub reached : Leads (opening key.positions key.limit) moves m
  pub words_are : words ≡ words_of m
  pub is_ring : IsRing m

module _ {T N : Type 0} (views : List (View T N)) where
  -- a seat with this memo sits at a port
  pub record SitsThere (memo : SeatMemo N) : Type 0 where
    pub port : ℕ
    pub its_key : Key T
    pub there : get_elem? views port ≡ some (Sits its_key memo)

  -- a seat came back with this memo, which the keeper has
  pub record CameBack (memo : SeatMemo N) : Type 0 where
    pub port : ℕ
    pub its_key : Key T
    pub keeper : KeeperMemo N
    pub there : get_elem? views port ≡ some (Keeps its_key keeper)
    pub back_at : get_elem? keeper.back memo.number ≡ some (Some memo)

  -- the memo is that of a seat that was made
  abbrev pub IsMemoThere : SeatMemo N → Type 0
  IsMemoThere memo = SitsThere memo ⊎ CameBack memo

  -- one memo is that of seat i
  pub record IsOneSeats (i : ℕ) : Type 0 where
    pub memo : SeatMemo N
    pub is_there : IsMemoThere memo
    pub number_is : memo.number ≡ i
    pub no_other : (other : SeatMemo N) → IsMemoThere other → other.number ≡ i → other ≡ memo

  -- one live seat holds the ticket, and it stands in no log
  pub record IsHeldOnce (t : ℕ) : Type 0 where
    pub holder : SeatMemo N
    pub sits : SitsThere holder
    pub is_live : holder.view.live ≡ true
    pub holds : Holds holder.view t
    pub no_other : (memo : SeatMemo N) → IsMemoThere memo → Holds memo.view t → memo ≡ holder
    pub in_no_log : (memo : SeatMemo N) (j : ℕ) (x : N) → IsMemoThere memo → get_elem? memo.log j ≢ some (Got t x)

  -- one log has the ticket, at one place, and no seat holds it
  pub record IsLoggedOnce (t : ℕ) : Type 0 where
    pub taker : SeatMemo N
    pub is_there : IsMemoThere taker
    pub place : ℕ
    pub its_note : N
    pub stands : get_elem? taker.log place ≡ some (Got t its_note)
    pub no_other : (memo : SeatMemo N) (j : ℕ) (x : N) → IsMemoThere memo → get_elem? memo.log j ≡ some (Got t x) → (memo ≡ taker)
        × (j ≡ place) × (x ≡ its_note)
    pub held_by_none : (memo : SeatMemo N) → IsMemoThere memo → ¬ Holds memo.view t

  -- the ticket has one place
  abbrev pub HasOnePlace : ℕ → Type 0
  HasOnePlace t = IsHeldOnce t ⊎ IsLoggedOnce t

  -- a log has the ticket with this note
  pub record IsNotedAs (t : ℕ) (x : N) : Type 0 where
    pub taker : SeatMemo N
    pub is_there : IsMemoThere taker
    pub place : ℕ
    pub stands : get_elem? taker.log place ≡ some (Got t x)

-- no call stands before the end of one that was decided before it, and none was lost past the claims
pub record IsInOrder {N : Type 0} (claimed : ℕ) (log : List (Outcome N)) : Type 0 where
  pub rises : (j l : ℕ) (a b : Outcome N) → j < l → get_elem? log j ≡ some a → get_elem? log l ≡ some b → end_of a ≤ start_of b
  pub lost_within : (j g : ℕ) → get_elem? log j ≡ some (Lost g) → g ≤ claimed

-- an offered value or a finished one, admitted under these terms
abbrev pub IsAdmittedSlot : {O D T N : Type 0} → (D → N) → (T → O → Type 0) → (T → N → Type 0) → T → Slot O D → Type 0
IsAdmittedSlot note Ao An terms Empty = ⊥
IsAdmittedSlot note Ao An terms (Offered y) = Ao terms y
IsAdmittedSlot note Ao An terms (Finished d) = An terms (note d)
