-- The rule of a running ring: what holds of its words, its slots and all views between any two steps.
use Rattle.std.specs.Prelude.{◌≡◌, ◌+◌, ◌%◌, ◌<◌, ◌≤◌, ◌⊎◌, ◌∷◌, ◌++◌}
use Rattle.permit_ring.specs.Names.{ℕ, true, false, List, [], length, sum, Option, Some, None, some, none, get_elem?, State, PermitWord, Key, KeeperMemo, Move, Lost, Rest, SeatMemo, Slot, Offered, Finished, View, Sits, Keeps, Spent, Machine, opening, new_seat, seat_at, Holds, packed, Maybe}
use Rattle.permit_ring.specs.Logs.{GoesOn, IsOrdered, end_from, got_of, taken_by}
use Rattle.permit_ring.specs.Moves.{Leads, by_seat, by_keeper}
use Rattle.permit_ring.specs.Steps.{first_memo}

-- the sizes that a ring may have
pub record IsKey {T : Type 0} (key : Key T) : Type 0 where
  pub some_position : 1 ≤ key.positions
  pub most_positions : key.positions ≤ 1024
  pub some_seat : 1 ≤ key.limit
  pub most_seats : key.limit ≤ 32

-- the keeper's view when the ring is made
abbrev pub first_view : {T N : Type 0} → Key T → View T N
first_view key = Keeps key (first_memo key.positions)

-- the words of a ring in this state: the permit word, both loss words, and the mark of each position
abbrev pub words_of : Machine → List ℕ
words_of m = packed m.limit m.word ∷ m.loss0.value ∷ m.loss1.value ∷ m.marks

-- the number stands in the list
abbrev pub StandsIn : List ℕ → ℕ → Type 0
StandsIn xs x = (place : ℕ) × (get_elem? xs place ≡ some x)

-- the keeper's numbers beside the machine's
pub record AreCounted (n reaped offered swept0 swept1 : ℕ) (seen : PermitWord) (notes : ℕ) (fronts : List ℕ) (free_until : ℕ)
    (known : PermitWord) (taken0 taken1 : List ℕ) : Type 0 where
  pub reaped_is : reaped ≡ notes
  pub offered_is : offered ≡ free_until
  pub first_front : get_elem? fronts 0 ≡ some n
  pub last_front : (earlier : List ℕ) × (fronts ≡ earlier ++ free_until ∷ [])
  pub seen_is : seen ≡ known
  pub swept0_is : swept0 ≡ sum taken0
  pub swept1_is : swept1 ≡ sum taken1

-- what the keeper counted, and the word that it last read or left, are the machine's
abbrev pub Counts : {N : Type 0} → ℕ → Machine → KeeperMemo N → Type 0
Counts n m k = AreCounted n m.reaped m.offered m.loss0.swept m.loss1.swept m.seen
    (length k.notes) k.fronts k.offered k.seen k.swept0 k.swept1

module _ {N : Type 0} where
  -- what became of the tickets that were claimed
  pub record AreFates (m : Machine) (Admits : N → Type 0) (made : ℕ) (fates : List (Option (ℕ × N))) : Type 0 where
    -- each claimed ticket has one
    pub each_claimed : length fates ≡ m.word.claimed
    -- a ticket is held just where nothing became of it yet
    pub held_is_open : (i t : ℕ) → Holds (seat_at m.seats i) t → get_elem? fates t ≡ some None
    pub open_is_held : (t : ℕ) → get_elem? fates t ≡ some None → (i : ℕ) × Holds (seat_at m.seats i) t
    -- else it was finished by a seat, with an admitted note
    pub finished : (t i : ℕ) (x : N) → get_elem? fates t ≡ some (Some (i, x)) → (i < made) × Admits x

  -- what a seat knows
  pub record IsSeatMemo (m : Machine) (moves : List Move) (fates : List (Option (ℕ × N))) (fronts : List ℕ)
      (released : List (SeatMemo N)) (made : ℕ) (memo : SeatMemo N) : Type 0 where
    pub is_made : memo.number < made
    -- itself
    pub shows : memo.view ≡ seat_at m.seats memo.number
    -- its moves
    pub moved : memo.moves ≡ by_seat memo.number moves
    -- its calls, in order
    pub ordered : IsOrdered memo
    pub below_claims : end_from 0 memo.log ≤ m.word.claimed
    -- the tickets that it got, all of them
    pub got : got_of memo.log ≡ taken_by memo.number 0 fates
    -- a call is lost only where all that was offered is claimed
    pub lost_at_front : (j g : ℕ) → get_elem? memo.log j ≡ some (Lost g) → StandsIn fronts g
    -- what had been offered at a rest still is
    pub rested : (l : ℕ) (rest : Rest) → get_elem? memo.rests l ≡ some rest → rest.offered ≤ m.offered
    -- it goes on from what it was when it was released
    pub goes_on : (p : ℕ) (was : SeatMemo N) → get_elem? released p ≡ some was → was.number ≡ memo.number → GoesOn was memo

  -- what the keeper knows
  pub record IsKeeperMemo (n : ℕ) (m : Machine) (moves : List Move) (fates : List (Option (ℕ × N))) (k : KeeperMemo N) : Type 0 where
    pub moved : k.moves ≡ by_keeper moves
    -- the t-th note is that of ticket t
    pub noted : (t : ℕ) (x : N) → get_elem? k.notes t ≡ some x → (i : ℕ) × (get_elem? fates t ≡ some (Some (i, x)))
    pub counted : Counts n m k
    -- seat 0 is there before it is made
    pub made_is : ((1 ≤ k.made) × (k.made ≡ length m.seats)) ⊎ ((k.made ≡ 0) × (m.seats ≡ new_seat ∷ []))
    pub back_is : length k.back ≡ k.made
    pub released_are : (p : ℕ) (was : SeatMemo N) → get_elem? k.released p ≡ some was → was.number < k.made
    -- a seat that is not made yet has made no move
    pub unmade_rest : (i : ℕ) → k.made ≤ i → by_seat i moves ≡ []

-- what stands at a place of the slots: nothing where it is no place, and else a value or, while someone has it, none
abbrev pub Home : Type 0 → Type 0 → Type 0
Home O D = Maybe (Maybe (Slot O D))

module _ {O D : Type 0} (home : Home O D) where
  -- a finished value of this note
  abbrev pub HasFinished : {N : Type 0} → (D → N) → N → Type 0
  HasFinished note x = (d : D) × (note d ≡ x) × (home ≡ some (some (Finished d)))

  -- an admitted value that was offered
  abbrev pub HasOffered : (O → Type 0) → Type 0
  HasOffered Admits = (y : O) × Admits y × (home ≡ some (some (Offered y)))

  -- someone has it
  abbrev pub IsOut : Type 0
  IsOut = home ≡ some none

module _ {O D N : Type 0} (note : D → N) (Admits : O → Type 0) (m : Machine) (fates : List (Option (ℕ × N))) where
  -- what the slot of ticket t holds: the value of a finished one, and what was offered until it is claimed
  pub record IsSlot (t : ℕ) (home : Home O D) : Type 0 where
    pub finished_home : (i : ℕ) (x : N) → get_elem? fates t ≡ some (Some (i, x)) → HasFinished home note x
    -- the seat that holds it has it
    pub held_out : get_elem? fates t ≡ some None → IsOut home
    pub offered_home : m.word.claimed ≤ t → t < m.offered → HasOffered home Admits
    -- the keeper has it until it is offered
    pub vacant_out : m.offered ≤ t → IsOut home

  -- what the slots hold, from the next ticket to be reaped on for one turn
  pub record AreSlots (n : ℕ) (homes : List (Maybe (Slot O D))) : Type 0 where
    pub a_slot_each : length homes ≡ n
    pub each : (t : ℕ) → m.reaped ≤ t → t < m.reaped + n → IsSlot t (get_elem? homes (t % n))

module _ {T N : Type 0} (key : Key T) (m : Machine) (moves : List Move) (fates : List (Option (ℕ × N))) (k : KeeperMemo N)
    (views : List (View T N)) (owner : ℕ → ℕ) where
  -- the view at a port: there is one keeper, and each number belongs to one seat
  abbrev pub IsViewAt : ℕ → View T N → Type 0
  IsViewAt port (Sits its memo) = (its ≡ key) × (owner memo.number ≡ port) × (memo.view.live ≡ true)
      × IsSeatMemo m moves fates k.fronts k.released k.made memo
  IsViewAt port (Keeps its other) = port ≡ 0
  IsViewAt port Spent = Unit {0}

  -- a seat that was made sits at its port, or came back
  abbrev pub IsSomewhere : ℕ → Option (SeatMemo N) → Type 0
  IsSomewhere i None = (memo : SeatMemo N) × (memo.number ≡ i) × (get_elem? views (owner i) ≡ some (Sits key memo))
  IsSomewhere i (Some memo) = (memo.number ≡ i) × (memo.view.live ≡ false) × IsSeatMemo m moves fates k.fronts k.released k.made memo

module _ {O D T N : Type 0} (note : D → N) (admits_offered : T → O → Type 0) (admits_note : T → N → Type 0) where
  -- there is a state of the ring machine, reached by moves, of which the words, the slots and all views tell
  pub record Runs (key : Key T) (s : State (Slot O D) (View T N)) : Type 0 where
    pub sizes : IsKey key
    pub machine : Machine
    pub moves : List Move
    pub reached : Leads (opening key.positions key.limit) moves machine
    pub words_are : s.words ≡ words_of machine
    -- what became of each ticket
    pub fates : List (Option (ℕ × N))
    pub keeper : KeeperMemo N
    pub are_fates : AreFates machine (admits_note key.terms) keeper.made fates
    pub are_slots : AreSlots note (admits_offered key.terms) machine fates key.positions s.homes
    -- the keeper's view, and what it knows
    pub keeper_there : get_elem? s.views 0 ≡ some (Keeps key keeper)
    pub knows : IsKeeperMemo key.positions machine moves fates keeper
    -- the port of each seat, and each view
    pub owner : ℕ → ℕ
    pub each_view : (port : ℕ) (v : View T N) → get_elem? s.views port ≡ some v
        → IsViewAt key machine moves fates keeper s.views owner port v
    pub each_seat : (i : ℕ) (back : Option (SeatMemo N)) → get_elem? keeper.back i ≡ some back
        → IsSomewhere key machine moves fates keeper s.views owner i back

  -- a ring between any two steps
  pub record RunningRing : Type 0 where
    pub key : Key T
    pub table : State (Slot O D) (View T N)
    pub rule : Runs key table
