-- When a history and a list of losses are one merge of what the callers asked for.
use Rattle.std.specs.Prelude.{◌≡◌, ℕ, ◌+◌, ◌<◌, ◌≤◌, List, [], length, map, filter, sum}
use Rattle.std.specs.List.{AllByRecursion}
use mathlib.Core.Option.{some}
use lib.ListN.{get_elem?}
use Rattle.history_spec.specs.Names.{Loss, Carried, Absent, Kept, Missing, Act, Report, State, SetMode, Entry}
use Rattle.ids_types.specs.Turns.{Turn, entries_of}
use Rattle.ids_config.specs.Parts.{Parts}
use Rattle.history_spec.specs.Contexts.{class_at, misses_context, AreClaims, IsLegalMissing}
use Rattle.history_spec.specs.Losses.{calls_of, lost_calls_of, givens_of, IsLegalLoss}
use Rattle.history_spec.specs.Orders.{StandsIn, times, once_below, RiseFrom, KeepUpFrom, LossesFrom}
use Rattle.history_spec.specs.Rounds.{Asked, reports, changes, sets, Round, lines_of, ticks_of, is_lost_report}

-- the calls of callers, so many of each, are the entries of turns and the losses, over a ring of n places
pub record AreMerged (n : ℕ) (calls : ℕ → ℕ) (turns : List Turn) (losses : List Loss) : Type 0 where
  -- each call is that of one entry or of one loss, and there is no other entry and no other loss
  pub each_once : (caller call : ℕ)
      → times call (calls_of caller (entries_of turns)) + times call (lost_calls_of caller losses) ≡ once_below call (calls caller)
  -- the entries of one caller rise in call as they rise in ticket
  pub in_order : (caller : ℕ) → RiseFrom 0 (calls_of caller (entries_of turns))
  -- each loss is legal, and no caller saw fewer places given back than before
  pub legal : (loss : Loss) → StandsIn losses loss → IsLegalLoss n turns loss
  pub looks_keep_up : (caller : ℕ) → KeepUpFrom 0 (givens_of caller losses)
  pub losses_in_order : LossesFrom 0 0 losses

-- a context is kept in a buffer of a class of the configuration that holds its bytes
pub record IsKeptIn (config : Parts) (class : ℕ) (bytes kept : List ℕ) : Type 0 where
  pub some_bytes : 0 < length bytes
  pub kept_is : kept ≡ bytes
  pub class_within : class < length config.classes
  pub fits : length bytes ≤ (class_at config class).size

-- what an entry of a caller's call carries of the bytes that were asked for
abbrev pub CarriesAsAsked : Parts → List Turn → ℕ → ℕ → List ℕ → Carried (List ℕ) → Type 0
CarriesAsAsked config turns caller call bytes Absent = bytes ≡ []
CarriesAsAsked config turns caller call bytes (Kept class claim kept) = IsKeptIn config class bytes kept
CarriesAsAsked config turns caller call bytes (Missing numbers) =
    (0 < length bytes) × IsLegalMissing config turns caller call (length bytes) numbers

-- the act of an entry of a caller's call is what was asked for
abbrev pub IsAsAsked : Parts → List Turn → ℕ → ℕ → Asked → Act (List ℕ) → Type 0
IsAsAsked config turns caller call (reports event count stamp bytes) (Report its its_count its_stamp context) =
    (its ≡ event) × (its_count ≡ count) × (its_stamp ≡ stamp) × CarriesAsAsked config turns caller call bytes context
IsAsAsked config turns caller call (changes state) (State its) = its ≡ state
IsAsAsked config turns caller call (sets event mode) (SetMode its its_mode) = (its ≡ event) × (its_mode ≡ mode)
IsAsAsked config turns caller call other act = ⊥

-- the entry is that of its caller's line
abbrev pub IsItsLine : Parts → List Round → List Turn → Entry (List ℕ) → Type 0
IsItsLine config rounds turns e =
    (asked : Asked) × (get_elem? (lines_of e.caller rounds) e.call ≡ some asked) × IsAsAsked config turns e.caller e.call asked e.act

-- the turns and the losses are one merge of the callers' lines of all rounds
pub record IsMerge (config : Parts) (rounds : List Round) (turns : List Turn) (losses : List Loss) : Type 0 where
  -- each call once, a caller's entries in its order, and legal losses in order
  pub calls : AreMerged config.ring (λ caller. length (lines_of caller rounds)) turns losses
  -- each entry says what its line says, and a missing context is legal
  pub as_asked : (e : Entry (List ℕ)) → StandsIn (entries_of turns) e → IsItsLine config rounds turns e
  -- the claims of each class, each once and a caller's in its order
  pub claims : AreClaims (entries_of turns)
  -- the turns tell how many reports were lost, and how many contexts
  pub lost_events : sum (map (λ t. t.head.lost_events) turns) ≡ length (filter (is_lost_report rounds) losses)
  pub lost_contexts : sum (map (λ t. t.head.lost_contexts) turns) ≡ length (filter (λ e. misses_context e.act) (entries_of turns))
  pub ticks_are : map (λ t. t.head.tick) turns ≡ ticks_of rounds
  -- no turn takes more entries than the ring has places
  pub few : AllByRecursion (λ t. length t.entries ≤ config.ring) turns
