-- Which lost calls are legal.
use Rattle.std.specs.Prelude.{◌≡◌, ℕ, ◌+◌, ◌<◌, ◌≤◌, List, length, map, filter, take, ◌==◌}
use mathlib.Core.Option.{some}
use lib.ListN.{get_elem?}
use Rattle.history_spec.specs.Names.{Loss, Entry}
use Rattle.ids_types.specs.Turns.{Turn, entries_of}

-- the entries of a caller
abbrev pub entries_by : ℕ → List (Entry (List ℕ)) → List (Entry (List ℕ))
entries_by caller entries = filter (λ e. caller == e.caller) entries

-- the calls of a caller's entries
abbrev pub calls_of : ℕ → List (Entry (List ℕ)) → List ℕ
calls_of caller entries = map (λ e. e.call) (entries_by caller entries)

-- the losses of a caller
abbrev pub losses_by : ℕ → List Loss → List Loss
losses_by caller losses = filter (λ loss. caller == loss.caller) losses

-- the calls that a caller lost
abbrev pub lost_calls_of : ℕ → List Loss → List ℕ
lost_calls_of caller losses = map (λ loss. loss.call) (losses_by caller losses)

-- how many places had been given back at each call that a caller lost
abbrev pub givens_of : ℕ → List Loss → List ℕ
givens_of caller losses = map (λ loss. loss.given) (losses_by caller losses)

-- how many entries the first k turns have
abbrev pub entries_before : ℕ → List Turn → ℕ
entries_before k turns = length (entries_of (take k turns))

-- the entry of this ticket is that of a caller's call
abbrev pub IsTicket : List Turn → ℕ → ℕ → ℕ → Type 0
IsTicket turns caller call ticket =
    (e : Entry (List ℕ)) × (get_elem? (entries_of turns) ticket ≡ some e) × (e.caller ≡ caller) × (e.call ≡ call)

-- the call found none of n places free: all n, and those that had been given back, were claimed before it
pub record IsLegalLoss (n : ℕ) (turns : List Turn) (loss : Loss) : Type 0 where
  pub given_back : (k : ℕ) × (k ≤ length turns) × (loss.given ≡ entries_before k turns)
  pub claimed : loss.given + n ≤ length (entries_of turns)
  pub earlier : (call ticket : ℕ) → call < loss.call → IsTicket turns loss.caller call ticket → ticket < loss.given + n
  pub later : (call ticket : ℕ) → loss.call < call → IsTicket turns loss.caller call ticket → loss.given + n ≤ ticket
