-- What each step adds to what its seat or the keeper knows.
use Rattle.std.specs.Prelude.{◌≡◌, ◌+◌, ◌==◌, if◌then◌else◌, ◌∷◌, ◌++◌}
use Rattle.permit_ring.specs.Names.{ℕ, true, false, nat_lt, List, [], slice_set, Option, Some, None, zero, suc, Ticket0, Step, Look, Claim, Finish, See, Read, Offer, Mark, Sweep, Split, Join, Resume, PermitWord, KeeperMemo, Move, Outcome, Lost, Got, SeatMemo, new_seat, looked, served, marked, offered_to, all_free, packed}
use Rattle.permit_ring.specs.Moves.{move}

-- one move more
abbrev pub and_move : List Move → Step → ℕ → List Move
and_move moves step found = moves ++ move step found ∷ []

-- the ticket that is held
abbrev pub ticket_in : Option Ticket0 → ℕ
ticket_in None = 0
ticket_in (Some ticket) = ticket.0

module _ {N : Type 0} where
  -- the log after a step that read the word: one lost call more where none was free
  abbrev pub and_lost : PermitWord → List (Outcome N) → List (Outcome N)
  and_lost word log = if nat_lt 0 word.free then log else log ++ Lost word.claimed ∷ []

  -- a seat that has just been made
  abbrev pub new_memo : ℕ → SeatMemo N
  new_memo number = record { number = number; view = new_seat; log = []; moves = []; rests = [] }

  -- after a look that read the word
  abbrev pub looks : ℕ → PermitWord → SeatMemo N → SeatMemo N
  looks limit word memo = record memo {
    view = looked word memo.view;
    log = and_lost word memo.log;
    moves = and_move memo.moves (Look memo.number) (packed limit word);
  }

  -- after a claim that found the word
  abbrev pub claims : ℕ → PermitWord → SeatMemo N → SeatMemo N
  claims limit word memo = record memo {
    view = served word memo.view;
    log = and_lost word memo.log;
    moves = and_move memo.moves (Claim memo.number) (packed limit word);
  }

  -- after the finish of the held ticket, with a value of the note
  abbrev pub finishes : N → SeatMemo N → SeatMemo N
  finishes x memo = record memo {
    view = record memo.view { held = None };
    log = memo.log ++ Got (ticket_in memo.view.held) x ∷ [];
    moves = and_move memo.moves (Finish memo.number) 0;
  }

  -- after a mark of a kind of loss
  abbrev pub adds_mark : ℕ → ℕ → SeatMemo N → SeatMemo N
  adds_mark kind found memo = record memo { view = marked kind memo.view; moves = and_move memo.moves (Mark memo.number kind) found }

  -- what the keeper knows at first
  abbrev pub first_memo : ℕ → KeeperMemo N
  first_memo n = record {
    notes = [];
    fronts = n ∷ [];
    offered = n;
    offers = 0;
    marks = [];
    swept0 = [];
    swept1 = [];
    seen = all_free n;
    made = 0;
    back = [];
    released = [];
    moves = [];
  }

  -- after a look at a mark that was not the next one
  abbrev pub waits : ℕ → KeeperMemo N → KeeperMemo N
  waits mark k = record k { marks = k.marks ++ mark ∷ []; moves = and_move k.moves See mark }

  -- after a look at the next mark, where a value of the note was
  abbrev pub reaps : ℕ → N → KeeperMemo N → KeeperMemo N
  reaps mark x k = record k { notes = k.notes ++ x ∷ []; marks = k.marks ++ mark ∷ []; moves = and_move k.moves See mark }

  -- after a look at the permit word
  abbrev pub reads : ℕ → PermitWord → KeeperMemo N → KeeperMemo N
  reads limit word k = record k { seen = word; moves = and_move k.moves Read (packed limit word) }

  -- after an offer of so many positions that found the keeper's word
  abbrev pub offers_all : ℕ → ℕ → KeeperMemo N → KeeperMemo N
  offers_all limit count k = record k {
    fronts = k.fronts ++ (k.offered + count) ∷ [];
    offered = k.offered + count;
    offers = k.offers + 1;
    seen = offered_to k.seen count;
    moves = and_move k.moves (Offer count) (packed limit k.seen);
  }

  -- after one that found another word
  abbrev pub misses : ℕ → ℕ → PermitWord → KeeperMemo N → KeeperMemo N
  misses limit count word k = record k { offers = k.offers + 1; seen = word; moves = and_move k.moves (Offer count) (packed limit word) }

  -- after a sweep of a kind of loss that found a number
  abbrev pub sweeps : ℕ → ℕ → KeeperMemo N → KeeperMemo N
  sweeps zero found k = record k { swept0 = k.swept0 ++ found ∷ []; moves = and_move k.moves (Sweep 0) found }
  sweeps (suc kind) found k = record k { swept1 = k.swept1 ++ found ∷ []; moves = and_move k.moves (Sweep (suc kind)) found }

  -- after a seat was made; seat 0 is there from the start
  abbrev pub makes : KeeperMemo N → KeeperMemo N
  makes k = record k { made = k.made + 1; back = k.back ++ None ∷ []; moves = if k.made == 0 then k.moves else and_move k.moves Split 0 }

  -- the memo of a seat that ended
  abbrev pub ended : SeatMemo N → SeatMemo N
  ended memo = record memo { view = record memo.view { live = false } }

  -- after a seat came back
  abbrev pub welcomes : SeatMemo N → KeeperMemo N → KeeperMemo N
  welcomes memo k = record k { back = slice_set k.back memo.number (Some (ended memo)); moves = and_move k.moves (Join memo.number) 0 }

  -- the first seat that is back, as it came back
  abbrev pub first_back : List (Option (SeatMemo N)) → Option (SeatMemo N)
  first_back [] = None
  first_back (None ∷ back) = first_back back
  first_back (Some memo ∷ back) = Some memo

  -- the memo of a seat that goes on, where so many positions were offered
  abbrev pub resumed : ℕ → SeatMemo N → SeatMemo N
  resumed offered memo = record memo {
    view = record memo.view { live = true };
    rests = memo.rests ++ record { calls = memo.view.calls; offered = offered } ∷ [];
  }

  -- after a seat that was back went on
  abbrev pub resumes : SeatMemo N → KeeperMemo N → KeeperMemo N
  resumes memo k = record k {
    back = slice_set k.back memo.number None;
    released = k.released ++ resumed k.offered memo ∷ [];
    moves = and_move k.moves (Resume memo.number) 0;
  }

  -- the keeper after that, where a seat is back
  abbrev pub goes_on : KeeperMemo N → Option (SeatMemo N) → KeeperMemo N
  goes_on k None = k
  goes_on k (Some memo) = resumes memo k

  -- the first seat that is back goes on
  pub record Releases (old new : KeeperMemo N) (seat : SeatMemo N) : Type 0 where
    pub memo : SeatMemo N
    pub is_first : first_back old.back ≡ Some memo
    pub keeper_is : new ≡ resumes memo old
    pub seat_is : seat ≡ resumed old.offered memo
