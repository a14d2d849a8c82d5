-- What the calls of seats and of the keeper do, as equations on what they know.
use Rattle.std.specs.Prelude.{◌≡◌, ◌≢◌, ◌+◌, ◌<◌, ◌≤◌, ◌⊎◌, ◌∷◌, ◌++◌}
use Rattle.permit_ring.specs.Names.{ℕ, List, [], map, length, Option, Some, None, Result, Ok, Err, Unready, Offer, PermitWord, KeeperMemo, Move, SeatMemo, Ticket, offered_to, packed}
use Rattle.permit_ring.specs.declared.answer.Look.{Look as Shown}
use Rattle.permit_ring.specs.Moves.{move}
use Rattle.permit_ring.specs.Steps.{looks, claims, waits, reaps, reads}

module _ {N : Type 0} where
  -- a claim that got a ticket: its look and its claim found a position free, and so many were claimed at its claim
  abbrev pub GotTicket : ℕ → SeatMemo N → ℕ → SeatMemo N → Type 0
  GotTicket limit old t new = (first second : PermitWord) × (0 < first.free) × (0 < second.free) × (second.claimed ≡ t)
      × (new ≡ claims limit second (looks limit first old))

  -- a call that was lost at its look, which found none free
  abbrev pub LostLook : ℕ → SeatMemo N → ℕ → SeatMemo N → Type 0
  LostLook limit old g new = (word : PermitWord) × (word.free ≡ 0) × (word.claimed ≡ g) × (new ≡ looks limit word old)

  -- and one that was lost at its claim, after a look that found a position free
  abbrev pub LostClaim : ℕ → SeatMemo N → ℕ → SeatMemo N → Type 0
  LostClaim limit old g new = (first second : PermitWord) × (0 < first.free) × (second.free ≡ 0) × (second.claimed ≡ g)
      × (new ≡ claims limit second (looks limit first old))

  -- a claim got a ticket, or was lost, and answers the word that showed it
  abbrev pub ClaimTells : ℕ → SeatMemo N → Result Ticket Shown → SeatMemo N → Type 0
  ClaimTells limit old (Ok ticket) new = GotTicket limit old ticket.0 new
  ClaimTells limit old (Err look) new = (look.free ≡ 0) × (LostLook limit old look.claimed new ⊎ LostClaim limit old look.claimed new)

-- how many claims had got a ticket where a call got this answer
abbrev pub claimed_at : Result Ticket Shown → ℕ
claimed_at (Ok ticket) = ticket.0
claimed_at (Err look) = look.claimed

-- the ticket that a call got
abbrev pub ticket_got : Result Ticket Shown → Option Ticket
ticket_got (Ok ticket) = Some ticket
ticket_got (Err look) = None

module _ {D N : Type 0} (note : D → N) where
  -- a reap adds the next ticket's note, or tells that it is not finished and changes nothing else
  abbrev pub ReapTells : KeeperMemo N → Result D Unready → KeeperMemo N → Type 0
  ReapTells old (Ok value) new = new ≡ reaps (length old.notes + 1) (note value) old
  ReapTells old (Err unready) new = (unready.mark ≢ length old.notes + 1) × (new ≡ waits unready.mark old)

-- the keeper once the next tickets were reaped, whose values have these notes: one mark is read for each
abbrev pub reaps_all : {N : Type 0} → List N → KeeperMemo N → KeeperMemo N
reaps_all [] k = k
reaps_all (x ∷ xs) k = reaps_all xs (reaps (length k.notes + 1) x k)

-- the next tickets are reaped in order, up to one that is not finished, whose mark is read last
abbrev pub ReapsToEnd : {N : Type 0} → List N → KeeperMemo N → KeeperMemo N → Type 0
ReapsToEnd xs old new = (mark : ℕ) × (mark ≢ length (reaps_all xs old).notes + 1) × (new ≡ waits mark (reaps_all xs old))

-- a reap that succeeded makes one position more vacant
abbrev pub vacant_after : {D : Type 0} → ℕ → Result D Unready → ℕ
vacant_after vacant (Ok value) = vacant + 1
vacant_after vacant (Err unready) = vacant

-- a try to offer so many positions, with the word that it found
abbrev pub tried : ℕ → ℕ → PermitWord → Move
tried limit count word = move (Offer count) (packed limit word)

-- each word is another than the one before it
abbrev pub AreOthers : PermitWord → List PermitWord → Type 0
AreOthers word [] = Unit {0}
AreOthers word (next ∷ words) = (next ≢ word) × AreOthers next words

-- the last of some words, or the one before all of them
abbrev pub last_word : PermitWord → List PermitWord → PermitWord
last_word word [] = word
last_word word (next ∷ words) = last_word next words

-- tries to offer some positions: some that each missed, and found another word than the one known before, and one that found the last and left it with these positions free
abbrev pub TriesTell : {N : Type 0} → ℕ → ℕ → KeeperMemo N → ℕ → KeeperMemo N → Type 0
TriesTell limit count old tries new = (missed : List PermitWord) × (tries ≡ length missed + 1) × AreOthers old.seen missed
    × (new ≡ record old {
      fronts = old.fronts ++ (old.offered + count) ∷ [];
      offered = old.offered + count;
      offers = old.offers + tries;
      seen = offered_to (last_word old.seen missed) count;
      moves = old.moves ++ map (tried limit count) (missed ++ last_word old.seen missed ∷ []);
    })

-- an offer of some positions: a look at the permit word, and then the tries
abbrev pub OfferTells : {N : Type 0} → ℕ → ℕ → KeeperMemo N → ℕ → KeeperMemo N → Type 0
OfferTells limit count old tries new = (first : PermitWord) × TriesTell limit count (reads limit first old) tries new

-- an offer of so many positions, by at most as many tries as there are seats and positions that were offered and not reaped; no step where there are none
abbrev pub OffersAll : {N : Type 0} → ℕ → ℕ → KeeperMemo N → KeeperMemo N → Type 0
OffersAll limit count old new = (count ≡ 0 → new ≡ old)
    × (0 < count → (tries : ℕ) × (tries + length old.notes ≤ old.offered + limit) × OfferTells limit count old tries new)
