-- The account of an event: how many of its items came, and what became of them.
-- That the numbers are kept, and which, is this project's own.
use Rattle.std.specs.Prelude.{◌≡◌, ℕ, ◌+◌, ◌<◌, not, List, [], ◌∷◌, length, map, filter, filter_map, flat_map, sum_by, slice_index_or, option_to_list, Option, Some, None, if◌then◌else◌}
use Rattle.std.specs.List.{AllByRecursion, list_any, range_with_len}
use Rattle.ids_config.specs.Parts.{Parts, event_at, is_given}
use Rattle.ids_config.specs.declared.parts.Aggregate.{Aggregate}
use Rattle.chain_spec.specs.Fates.{Fate, InWindow, place_of, all_steps}
use Rattle.chain_spec.specs.Items.{Item, is_of}
use Rattle.chain_spec.specs.Lists.{sampled}
use Rattle.chain_spec.specs.Moments.{Moment, comes}
use Rattle.chain_spec.specs.OpenWindows.{closing_ticks, is_due, open_window}
use Rattle.chain_spec.specs.Storing.{is_stored}
use Rattle.chain_spec.specs.Way.{Ending, by_window, ends_at, endings}
use Rattle.chain_spec.specs.Windows.{Window, members, windows_of}
use Rattle.chain_spec.specs.declared.account.Account.{Account}

-- how many of these endings are at a step
abbrev pub number_at : Fate → List Ending → ℕ
number_at step told = length (filter (ends_at step) told)

-- those since a window last gave an item
abbrev pub since_given : List Ending → List Ending
since_given [] = []
since_given (one ∷ before) = if by_window one then [] else one ∷ since_given before

-- the account of the endings of an event
abbrev pub account_by : Parts → List Ending → Account
account_by config told = record {
  came = length (filter (λ one. not (by_window one)) told);
  closed = length (filter by_window told);
  ended = map (λ step. number_at step told) all_steps;
  waiting = number_at InWindow (since_given told);
  stored = length (filter (is_stored config) told);
}

-- how many of an account ended at a step
abbrev pub ended_at : Fate → Account → ℕ
ended_at step account = slice_index_or account.ended (place_of step) 0

-- the account of an event after these moments
abbrev pub account_of : Parts → ℕ → List Moment → Account
account_of config event moments = account_by config (filter (λ one. is_of event one.item) (endings config moments))

-- ---- what the laws compare it with

-- the item that comes at a moment
abbrev pub comer : Moment → Option Item
comer (comes item) = Some item
comer _ = None

-- the items that come
abbrev pub comers : List Moment → List Item
comers moments = filter_map comer moments

-- each item that comes is one of a configured event
abbrev pub AreConfigured : Parts → List Moment → Type 0
AreConfigured config moments = AllByRecursion (λ item. item.event < length config.events) (comers moments)

-- the configured events
abbrev pub events_in : Parts → List ℕ
events_in config = range_with_len 0 (length config.events)

-- the configured events but for the internal one that tells what the limits held back
abbrev pub limited_events_in : Parts → List ℕ
limited_events_in config = filter (λ event. not (is_given config.limited event)) (events_in config)

-- the windows of these items that turns at these ticks have closed
abbrev pub closed_windows : Option Aggregate → List ℕ → List Item → List (Window Item)
closed_windows None ticks items = []
closed_windows (Some setting) ticks items =
    filter (λ w. list_any (λ tick. is_due setting.interval tick w) ticks) (windows_of (λ item. item.tick) setting.interval items)

-- what the open window of these items holds
abbrev pub waiting : Option Aggregate → List ℕ → List Item → List Item
waiting None ticks items = []
waiting (Some setting) ticks items = flat_map members (option_to_list (open_window setting.interval ticks items))

-- after these moments the account tells of each window that closed, as one item that it gave, of what all windows
-- had together, and of what the open one holds
pub record TellsWindows (config : Parts) (event : ℕ) (moments : List Moment) : Type 0 where
  pub closed : (account_of config event moments).closed
      ≡ length (closed_windows (event_at config event).aggregate (closing_ticks event moments) (sampled config event moments))
  pub joined : ended_at InWindow (account_of config event moments) ≡ sum_by (λ w. length (members w))
      (closed_windows (event_at config event).aggregate (closing_ticks event moments) (sampled config event moments))
      + (account_of config event moments).waiting
  pub waiting : (account_of config event moments).waiting
      ≡ length (waiting (event_at config event).aggregate (closing_ticks event moments) (sampled config event moments))
