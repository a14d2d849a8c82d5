-- The logs of class rings when all is over, and what they make of a history.
use Rattle.std.specs.Prelude.{◌≡◌, ℕ, suc, ◌+◌, ◌≤◌, ◌==◌, if◌then◌else◌, Some, None, List, [], ◌∷◌, length}
use Rattle.history_spec.specs.Names.{Entry}
use Rattle.ids_types.specs.{Turn, entries_of, Fate, AreAllDecided, claims_got}
use Rattle.ids_config.specs.Parts.{Parts}
use Rattle.history_spec.specs.Contexts.{class_at, sizes_in, too_small, Misses, AreClaims, IsLegalMissing}
use Rattle.history_spec.specs.Follows.{Calls, Follows}
use Rattle.history_spec.specs.Losses.{entries_by}
use Rattle.history_spec.specs.Orders.{StandsIn}

-- the tickets of a caller, where the claimants are those of tickets from this one on
abbrev pub claims_by : ℕ → ℕ → List ℕ → List ℕ
claims_by caller ticket [] = []
claims_by caller ticket (claimant ∷ claimants) =
    if caller == claimant then ticket ∷ claims_by caller (suc ticket) claimants else claims_by caller (suc ticket) claimants

-- the entries that a caller's calls made, where they are its calls from this one on
abbrev pub entries_from : ℕ → ℕ → Calls → List (Entry (List ℕ))
entries_from caller call [] = []
entries_from caller call (None ∷ calls) = entries_from caller (suc call) calls
entries_from caller call (Some act ∷ calls) = record { caller = caller; call = call; act = act } ∷ entries_from caller (suc call) calls

-- a caller's log of a class ring of so many buffers, all of whose claims are known
pub record IsSettledLog (number : ℕ) (claimants : List ℕ) (caller : ℕ) (log : List Fate) : Type 0 where
  -- it was lost only where all buffers had been claimed
  pub decided : AreAllDecided (length claimants) (λ claimed. number ≤ claimed) log
  -- it got just the tickets that are its own
  pub got : claims_got log ≡ claims_by caller 0 claimants

-- each caller's logs are what its calls asked of the classes, they are settled, and its entries are its accepted calls
pub record AreSettled (config : Parts) (turns : List Turn) (calls : ℕ → Calls)
    (log : ℕ → ℕ → List Fate) (claimants : ℕ → List ℕ) : Type 0 where
  pub follows : (caller i : ℕ) → Follows (sizes_in config) i (calls caller) (log caller i)
  pub settled : (caller i : ℕ) → IsSettledLog (class_at config i).number (claimants i) caller (log caller i)
  pub are_entries : (caller : ℕ) → entries_by caller (entries_of turns) ≡ entries_from caller 0 (calls caller)

-- the claims of the history are legal, and so is each missing context that has a number for each fitting class
pub record AreLegalContexts (config : Parts) (turns : List Turn) : Type 0 where
  pub claims : AreClaims (entries_of turns)
  pub missing : (e : Entry (List ℕ)) (bytes : ℕ) (numbers : List ℕ) → StandsIn (entries_of turns) e → Misses e.act numbers
      → too_small config bytes + length numbers ≡ length config.classes → IsLegalMissing config turns e.caller e.call bytes numbers
