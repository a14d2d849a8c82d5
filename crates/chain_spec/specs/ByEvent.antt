-- The filters said over whole lists of one event, one filter after another. Each list has its newest first.
-- Public standard: AUTOSAR SWS Intrusion Detection System Manager, filter chain.
use Rattle.std.specs.Prelude.{ℕ, ◌+◌, ◌%◌, ◌==◌, nat_le, List, [], ◌∷◌, length, map, filter_map, Option, Some, None, option_map}
use Rattle.std.specs.Option.{option_or}
use Rattle.ids_types.specs.Turns.{Turn}
use Rattle.ids_config.specs.declared.parts.Aggregate.{Aggregate}
use Rattle.ids_config.specs.declared.parts.Window.{Window as Setting}
use Rattle.chain_spec.specs.Counting.{counted}
use Rattle.chain_spec.specs.Items.{Item}
use Rattle.chain_spec.specs.OpenWindows.{joined}
use Rattle.chain_spec.specs.Stages.{added, where_true}
use Rattle.chain_spec.specs.Threshold.{verdict}
use Rattle.chain_spec.specs.Windows.{Window, windows_of}

-- the tick of a turn
abbrev pub tick_of : Turn → ℕ
tick_of turn = turn.head.tick

-- every nth of the items: those whose rank, from 1, is a multiple of n
abbrev pub every : ℕ → List Item → List Item
every n items = added (λ before item. where_true ((length before + 1) % n == 0) item) items

-- the first of the ticks, the newest of which stands first, that is at least this one
abbrev pub first_from : ℕ → List ℕ → Option ℕ
first_from least [] = None
first_from least (tick ∷ before) = option_or (first_from least before) (where_true (nat_le least tick) tick)

-- the one item of a window, at the first of the turns' ticks at which it is due, if there is one
abbrev pub closed_item : Aggregate → List ℕ → Window Item → Option Item
closed_item setting ticks w =
    option_map (λ tick. joined setting.last tick w) (first_from (w.opener.tick + setting.interval) ticks)

-- the items of an event after aggregation, over turns at these ticks: one for each window that closes
abbrev pub closed_items : Option Aggregate → List ℕ → List Item → List Item
closed_items None ticks items = items
closed_items (Some setting) ticks items =
    filter_map (closed_item setting ticks) (windows_of (λ item. item.tick) setting.interval items)

-- the items of an event that pass its threshold
abbrev pub reaching : Option Setting → List Item → List Item
reaching threshold items = added (λ before item. where_true (verdict threshold (counted item) (map counted before)) item) items
