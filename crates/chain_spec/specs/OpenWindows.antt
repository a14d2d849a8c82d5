-- Which window of an event is open, and what it gives when it closes: at the first turn whose tick is at least its
-- opener's plus the interval.
-- Public standard: AUTOSAR SWS Intrusion Detection System Manager, aggregation filter.
use Rattle.std.specs.Prelude.{ℕ, ◌+◌, ◌==◌, nat_le, Bool, List, [], ◌∷◌, filter_map, Option, Some, None, option_and_then, option_map, not}
use Rattle.std.specs.List.{list_any}
use Rattle.ids_config.specs.declared.parts.Aggregate.{Aggregate}
use Rattle.chain_spec.specs.Aggregation.{count_of, kept_of}
use Rattle.chain_spec.specs.Items.{Item}
use Rattle.chain_spec.specs.Moments.{Moment, closes}
use Rattle.chain_spec.specs.Stages.{where_true}
use Rattle.chain_spec.specs.Windows.{Window, windows_of}

-- the tick at which a moment closes what is due of an event
abbrev pub closing_of : ℕ → Moment → Option ℕ
closing_of event (closes tick other) = where_true (other == event) tick
closing_of event _ = None

-- the ticks at which turns closed what was due of an event
abbrev pub closing_ticks : ℕ → List Moment → List ℕ
closing_ticks event moments = filter_map (closing_of event) moments

-- the window is due at a tick
abbrev pub is_due : ℕ → ℕ → Window Item → Bool
is_due interval tick w = nat_le (w.opener.tick + interval) tick

-- the newest element, if it passes the test
abbrev pub newest_where : {A : Type 0} → (A → Bool) → List A → Option A
newest_where test [] = None
newest_where test (x ∷ before) = where_true (test x) x

-- the window of these items that no turn at these ticks closed
abbrev pub open_window : ℕ → List ℕ → List Item → Option (Window Item)
open_window interval ticks items =
    newest_where (λ w. not (list_any (λ tick. is_due interval tick w) ticks)) (windows_of (λ item. item.tick) interval items)

-- the one item of a window that closes at a tick: the counts together, the opener's timestamp, and the context data kept
abbrev pub joined : Bool → ℕ → Window Item → Item
joined last tick w = record {
  event = w.opener.event;
  tick = tick;
  count = count_of (λ item. item.count) w;
  stamp = w.opener.stamp;
  context = kept_of last (λ item. item.context) w;
}

-- what a turn at this tick gives of an event by closing its window, if the event is aggregated, a window of these items
-- is open, and it is due
abbrev pub closing_item : Option Aggregate → ℕ → List ℕ → List Item → Option Item
closing_item None tick ticks items = None
closing_item (Some setting) tick ticks items = option_map (joined setting.last tick)
    (option_and_then (λ w. where_true (is_due setting.interval tick w) w) (open_window setting.interval ticks items))
