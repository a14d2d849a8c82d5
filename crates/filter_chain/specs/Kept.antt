-- The context data that open windows keep.
use Rattle.std.specs.Prelude.{ℕ, List, [], ◌++◌, length, flat_map, reverse, Option, Some, None, option_to_list, option_and_then}
use Rattle.std.specs.List.{range_with_len}
use Rattle.std.specs.List.Sorted.{IsPermutation}
use Rattle.ids_types.specs.Turns.{Turn}
use Rattle.ids_config.specs.Parts.{Parts, event_at}
use Rattle.ids_config.specs.declared.parts.Aggregate.{Aggregate}
use Rattle.chain_spec.specs.Aggregation.{kept_of}
use Rattle.chain_spec.specs.Items.{Item}
use Rattle.chain_spec.specs.Lists.{sampled}
use Rattle.chain_spec.specs.Moments.{Moment, moments}
use Rattle.chain_spec.specs.OpenWindows.{closing_ticks, open_window}

-- what the open window of these items keeps, as a list: nothing, or the context data of its one item
abbrev pub open_context : Option Aggregate → List ℕ → List Item → List (List ℕ)
open_context None ticks items = []
open_context (Some setting) ticks items =
    option_to_list (option_and_then (kept_of setting.last (λ item. item.context)) (open_window setting.interval ticks items))

-- what the open windows of the configured events keep after these moments, event by event
abbrev pub contexts_after : Parts → List Moment → List (List ℕ)
contexts_after config moments =
    flat_map (λ event. open_context (event_at config event).aggregate (closing_ticks event moments) (sampled config event moments))
    (range_with_len 0 (length config.events))

-- what they keep after these turns, the first of which stands first
abbrev pub open_contexts : Parts → List Turn → List (List ℕ)
open_contexts config turns = contexts_after config (moments config (reverse turns))

-- some of a list's elements, none of them more often than it stands there, in any order
pub record AreAmong {A : Type 0} (all some : List A) : Type 0 where
  pub others : List A
  pub same : IsPermutation (some ++ others) all
