-- What a claim does at each class: it asks the fitting ones from the smallest on, until one has a buffer free.
use Rattle.std.specs.Prelude.{◌≡◌, ◌+◌, ◌*◌, ◌≤◌, ◌==◌, if◌then◌else◌, ◌∷◌, ◌^◌}
use Rattle.buffer_classes.specs.Names.{Claim, GotBuffer, NoneFree, ℕ, suc, List, [], length, Option, Some, None, Result, Ok, Err, ⊤, All, some, get_elem?, ring_seats, seat_calls, seat_memo, seat_number, finishes, got_of, Class, ClassSeat, Lost, Got, Outcome, SeatMemo}
use Rattle.ids_types.specs.declared.names.Ticket.{Ticket}
use Rattle.permit_ring.specs.Calls as ring
use Rattle.buffer_classes.specs.Buffers.{Buffer, found_full}
use Rattle.buffer_classes.specs.Seats.{IsClassSeat}

-- what a claim gave that got this buffer, or none, after these looks
abbrev pub claim_with : Option Buffer → List ℕ → Claim
claim_with (Some buf) looks = GotBuffer buf looks
claim_with None looks = NoneFree looks

-- the ticket of a number
abbrev pub ticket : ℕ → Ticket
ticket claim = record { 0 = claim }

-- what a claim asked of class i, where its looks are those of the classes from this one on
abbrev pub lost_at : ℕ → List ℕ → ℕ → List Outcome
lost_at first [] i = []
lost_at first (claimed ∷ looks) i = if i == first then Lost claimed ∷ [] else lost_at (suc first) looks i

-- what became of the calls at class i of a claim that asked from this class on
abbrev pub asked : ℕ → Claim → ℕ → List Outcome
asked first (GotBuffer buf skipped) i = if i == buf.class then Got buf.claim tt ∷ [] else lost_at first skipped i
asked first (NoneFree looks) i = lost_at first looks i

-- what that did to the seat of a class: a call that was lost, or that got a ticket and finished it at once
abbrev pub Asks : ℕ → SeatMemo → List Outcome → SeatMemo → Type 0
Asks limit old [] new = new ≡ old
Asks limit old (Lost g ∷ []) new = ring.ClaimTells limit old (Err (found_full g)) new
Asks limit old (Got t x ∷ []) new = (mid : SeatMemo) × ring.ClaimTells limit old (Ok (ticket t)) mid × (new ≡ finishes x mid)
Asks limit old (call ∷ next ∷ calls) new = ⊥

-- the seat of a class made these calls, one or none: of at most a look and a claim, and a finish where it got a ticket
pub record AsksClass (class : Class) (old : ClassSeat) (calls : List Outcome) (new : ClassSeat) : Type 0 where
  pub is_seat : IsClassSeat class new
  pub number_is : seat_number new ≡ seat_number old
  pub told : Asks (ring_seats class.ring) (seat_memo old) calls (seat_memo new)
  pub once : length calls ≤ 1
  pub calls_are : seat_calls new ≡ seat_calls old + length calls
  pub few_steps : length (seat_memo new).moves ≤ length (seat_memo old).moves + 2 * length calls + length (got_of calls)

-- what a call at one class gave, as the seat has it
abbrev pub outcome_of : Result Buffer ℕ → List Outcome
outcome_of (Ok buf) = Got buf.claim tt ∷ []
outcome_of (Err claimed) = Lost claimed ∷ []

-- one look for each fitting class that was asked in vain, and then a buffer of the next class, or none where no class is left
abbrev pub ClaimTells : ℕ → List ℕ → Claim → Type 0
ClaimTells first sizes (GotBuffer buf skipped) = (first + length skipped ≡ buf.class) × (get_elem? sizes buf.class ≡ some buf.size)
ClaimTells first sizes (NoneFree looks) = first + length looks ≡ length sizes

-- a claim that got a buffer made one step more than those that asked for it
abbrev pub finish_of : Claim → ℕ
finish_of (GotBuffer buf skipped) = 1
finish_of (NoneFree looks) = 0

-- no claim has a number above 2^45
abbrev pub AreSmall : Claim → Type 0
AreSmall (GotBuffer buf skipped) = (buf.claim ≤ 2 ^ 45) × All (λ claimed. claimed ≤ 2 ^ 45) skipped
AreSmall (NoneFree looks) = All (λ claimed. claimed ≤ 2 ^ 45) looks

-- a buffer that was got holds so many bytes
abbrev pub HoldsSoMany : ℕ → Claim → Type 0
HoldsSoMany bytes (GotBuffer buf skipped) = bytes ≤ buf.size
HoldsSoMany bytes (NoneFree looks) = ⊤
