-- Endings in the order of time, as a listener hears them, and accounts as the code keeps them.
use Rattle.std.specs.Prelude.{◌≡◌, ℕ, ◌++◌, Bool, true, false, List, ◌∷◌, map, None, option_to_list, reverse, ◌≤◌, ◌<◌, ◌+◌, length, filter, slice_index_or, slice_set, if◌then◌else◌}
use Rattle.std.proofs.Common.{ap, sym, ◌∙◌}
use Rattle.ids_types.specs.{Turn}
use Rattle.ids_types.specs.declared.entry.Act.{Act}
use Rattle.ids_types.specs.declared.entry.Act.TheVariants.{Report}
use Rattle.ids_types.specs.declared.entry.Entry.{Entry}
use Rattle.ids_config.specs.Parts.{Parts}
use Rattle.chain_spec.specs.{Ending, by_window, ends_at, ending_at, endings, Moment, act_moment, turn_moments, account_by, all_steps, ended_at, place_of, is_of}
use Rattle.event_chain.specs.Told.{bare, ending_of}
use Rattle.chain_endings.specs.ExplainedText.{endings_along, is_missing}
use Rattle.chain_endings.specs.declared.explaining.Listener.{Listener}
use Rattle.chain_spec.specs.declared.account.Account.{Account}
use Rattle.chain_spec.specs.declared.fate.Fate.TheVariants.{InWindow}

-- the endings at the moments of a turn after these
abbrev pub turn_endings : Parts → List Moment → Turn → List Ending
turn_endings config before turn = endings_along config before (turn_moments config turn)

-- the moments of entries at a tick
abbrev pub entry_moments : ℕ → List (Entry (List ℕ)) → List Moment
entry_moments tick entries = map (λ entry. act_moment tick entry.act) entries

-- the act is a report, by which an item comes
abbrev pub is_report : Act (List ℕ) → Bool
is_report (Report event count stamp context) = true
is_report _ = false

-- the endings of moments as they are told, the first of them first
abbrev pub told_in : Parts → List Moment → List Ending
told_in config moments = reverse (map bare (endings config moments))

-- a listener who lost none heard all of them
abbrev pub Hears : Listener → Parts → List Moment → Type 0
Hears listener config moments = listener.lost ≡ false → map ending_of listener.heard.items ≡ told_in config moments

-- where nothing ends nothing is told
pub silent : (listener : Listener) (config : Parts) (before : List Moment) (moment : Moment) → Hears listener config before
    → ending_at config before moment ≡ None → Hears listener config (moment ∷ before)
silent listener config before moment hears none kept =
    hears kept ∙ ap (λ o. reverse (map bare (option_to_list o ++ endings config before))) (sym none)

-- ---- accounts as the code keeps them

-- the account of no items
abbrev pub nothing : Account
nothing = record { came = 0; closed = 0; ended = map (λ step. 0) all_steps; waiting = 0; stored = 0 }

-- with an ending more, whose item is stored or not
abbrev pub with_ending : Bool → Ending → Account → Account
with_ending stored one account = record {
  came = if by_window one then account.came else account.came + 1;
  closed = if by_window one then account.closed + 1 else account.closed;
  ended = slice_set account.ended (place_of one.fate) (ended_at one.fate account + 1);
  waiting = if by_window one then 0 else if ends_at InWindow one then account.waiting + 1 else account.waiting;
  stored = if stored then account.stored + 1 else account.stored;
}

-- none of its numbers is above this one
pub record IsAtMost (most : ℕ) (account : Account) : Type 0 where
  pub came : account.came ≤ most
  pub closed : account.closed ≤ most
  pub ended : (place : ℕ) → slice_index_or account.ended place 0 ≤ most
  pub waiting : account.waiting ≤ most
  pub stored : account.stored ≤ most

-- the account of event k
abbrev pub kept_at : List Account → ℕ → Account
kept_at accounts k = slice_index_or accounts k nothing

-- the accounts, one for each event, are those of these endings, the newest of which stands first
pub record AreOf (config : Parts) (endings : List Ending) (accounts : List Account) : Type 0 where
  pub events : length accounts ≡ length config.events
  pub each : (k : ℕ) → k < length accounts → kept_at accounts k ≡ account_by config (filter (λ one. is_of k one.item) endings)

-- the numbers, one for each event, are those of the reports among these entries that lost their context data
abbrev pub CountsMissing : List (Entry (List ℕ)) → List ℕ → Type 0
CountsMissing entries missing = (k : ℕ) → k < length missing
    → slice_index_or missing k 0 ≡ length (filter (λ entry. is_missing k entry.act) entries)
