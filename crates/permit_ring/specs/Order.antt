-- In which order steps were made and tickets were got.
use Rattle.std.specs.Prelude.{◌≡◌, ◌+◌, ◌<◌, ◌&&◌, if◌then◌else◌, ◌∷◌, ◌++◌}
use Rattle.permit_ring.specs.Names.{ℕ, Bool, true, false, nat_lt, List, [], take, Some, some, get_elem?, KeeperMemo, Machine, SeatMemo, Step, Claim, Move, opening, unpacked}
use Rattle.permit_ring.specs.Moves.{Leads, by_keeper, by_seat}

-- the step is a claim
abbrev pub is_claim : Step → Bool
is_claim (Claim i) = true
is_claim _ = false

-- the move is a claim that found a position free, at a ring for so many seats
abbrev pub gets_ticket : ℕ → Move → Bool
gets_ticket limit v = is_claim v.step && nat_lt 0 (unpacked limit v.found).free

-- the number of claims that its word showed, which is the ticket that it got
abbrev pub ticket_at : ℕ → Move → ℕ
ticket_at limit v = (unpacked limit v.found).claimed

-- how many of the moves got a ticket
abbrev pub tickets_got : ℕ → List Move → ℕ
tickets_got limit [] = 0
tickets_got limit (v ∷ vs) = if gets_ticket limit v then 1 + tickets_got limit vs else tickets_got limit vs

-- each move that got a ticket got the one whose number is how many were got before it
abbrev pub AreCounted : ℕ → List Move → Type 0
AreCounted limit moves = (p : ℕ) (v : Move) → get_elem? moves p ≡ some v → gets_ticket limit v ≡ true
    → ticket_at limit v ≡ tickets_got limit (take p moves)

-- of two moves that got a ticket, the later one got the greater
abbrev pub AreInOrder : ℕ → List Move → Type 0
AreInOrder limit moves = (p q : ℕ) (a b : Move) → p < q → get_elem? moves p ≡ some a → get_elem? moves q ≡ some b
    → gets_ticket limit a ≡ true → gets_ticket limit b ≡ true → ticket_at limit a < ticket_at limit b

-- all steps at a ring that the keeper knows of, its own and those of the seats that came back, stand in one order
pub record HaveOneOrder {N : Type 0} (k : KeeperMemo N) : Type 0 where
  -- the positions of the ring, and how many seats it may have
  pub positions : ℕ
  pub limit : ℕ
  pub positions_are : get_elem? k.fronts 0 ≡ some positions
  pub moves : List Move
  pub machine : Machine
  -- each was possible when its turn came, and found what the words then showed
  pub reached : Leads (opening positions limit) moves machine
  -- each seat that came back made its own in the order in which they stand
  pub of_seats : (i : ℕ) (memo : SeatMemo N) → get_elem? k.back i ≡ some (Some memo) → memo.moves ≡ by_seat i moves
  -- and so did the keeper, which may have made some since
  pub of_keeper : (since : List Move) × (k.moves ≡ by_keeper moves ++ since)
  -- so the claim that stands first got the lower ticket
  pub counted : AreCounted limit moves
  pub in_order : AreInOrder limit moves
