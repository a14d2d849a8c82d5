-- What became of all callers' calls on the report ring, and the losses that it makes.
use Rattle.std.specs.Prelude.{◌≡◌, ℕ, suc, ◌-◌, ◌==◌, if◌then◌else◌, List, [], ◌∷◌, ◌++◌, length, slice_index_or}
use Rattle.ids_types.specs.{Turn, entries_of, Fate, lost, accepted, AreAllDecided}
use Rattle.history_spec.specs.Names.{Entry, Loss}
use Rattle.history_spec.specs.Fronts.{IsFront}

-- the accepted calls from one on, each with its ticket
abbrev pub tickets_from : ℕ → List Fate → List (ℕ × ℕ)
tickets_from call [] = []
tickets_from call (lost claimed ∷ fates) = tickets_from (suc call) fates
tickets_from call (accepted ticket ∷ fates) = (call, ticket) ∷ tickets_from (suc call) fates

-- the calls of a caller's entries, each with its ticket, where entries are those of tickets from one on
abbrev pub tickets_of : ℕ → ℕ → List (Entry (List ℕ)) → List (ℕ × ℕ)
tickets_of caller ticket [] = []
tickets_of caller ticket (e ∷ entries) =
    if caller == e.caller then (e.call, ticket) ∷ tickets_of caller (suc ticket) entries else tickets_of caller (suc ticket) entries

-- a caller's calls, so many, decided on a report ring of n places, are its entries of the turns and calls that found none free
pub record IsDecided (n : ℕ) (turns : List Turn) (caller calls : ℕ) (fates : List Fate) : Type 0 where
  pub calls_are : length fates ≡ calls
  -- each was lost only where all n, and all that some first turns had given back, had been claimed
  pub decided : AreAllDecided (length (entries_of turns)) (IsFront n turns) fates
  pub are_entries : tickets_from 0 fates ≡ tickets_of caller 0 (entries_of turns)

-- what became of a caller's calls; callers beyond the list made none
abbrev pub fates_of : List (List Fate) → ℕ → List Fate
fates_of callers caller = slice_index_or callers caller []

-- the calls of all callers, so many of each, are decided, and no other caller has an entry
abbrev pub AreDecided : ℕ → (ℕ → ℕ) → List Turn → List (List Fate) → Type 0
AreDecided n calls turns callers = (caller : ℕ) → IsDecided n turns caller (calls caller) (fates_of callers caller)

-- the losses of a caller's calls from one on
abbrev pub losses_from : ℕ → ℕ → ℕ → List Fate → List Loss
losses_from n caller call [] = []
losses_from n caller call (lost claimed ∷ fates) =
    record { caller = caller; call = call; given = claimed - n } ∷ losses_from n caller (suc call) fates
losses_from n caller call (accepted ticket ∷ fates) = losses_from n caller (suc call) fates

-- the losses of all callers from one on
abbrev pub all_losses : ℕ → ℕ → List (List Fate) → List Loss
all_losses n caller [] = []
all_losses n caller (fates ∷ callers) = losses_from n caller 0 fates ++ all_losses n (suc caller) callers
