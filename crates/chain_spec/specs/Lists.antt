-- The lists of the filter chain, read off the endings of a history. Each has its newest item first.
-- Public standard: AUTOSAR SWS Intrusion Detection System Manager, filter chain, and rate and traffic limitation after
-- it. What counts as held back is this project's own.
use Rattle.std.specs.Prelude.{ℕ, ◌&&◌, not, Bool, List, filter}
use Rattle.ids_config.specs.Parts.{Parts, event_at, is_given}
use Rattle.chain_spec.specs.Fates.{Fate, AtNth, InWindow, AtThreshold, AtSend, AtRate, Sent, is_limited}
use Rattle.chain_spec.specs.Items.{Item, is_of}
use Rattle.chain_spec.specs.Moments.{Moment}
use Rattle.chain_spec.specs.Way.{Ending, endings, items_where, passes, reaches}

-- the items that reached a step
abbrev pub reached : Parts → Fate → List Moment → List Item
reached config step moments = items_where (reaches step) (endings config moments)

-- the arrivals of an event: its items that pass reporting mode and block state
abbrev pub arrivals : Parts → ℕ → List Moment → List Item
arrivals config event moments = filter (is_of event) (reached config AtNth moments)

-- every nth of them
abbrev pub sampled : Parts → ℕ → List Moment → List Item
sampled config event moments = filter (is_of event) (reached config InWindow moments)

-- the items after the aggregation filter
abbrev pub aggregated : Parts → List Moment → List Item
aggregated config moments = reached config AtThreshold moments

-- the items after the threshold filter
abbrev pub thresholded : Parts → List Moment → List Item
thresholded config moments = items_where (passes AtThreshold) (endings config moments)

-- the qualified events: what passed all filters, or bypassed them
abbrev pub qualified : Parts → List Moment → List Item
qualified config moments = reached config AtSend moments

-- the candidates: the qualified events that are to be sent
abbrev pub candidates : Parts → List Moment → List Item
candidates config moments = reached config AtRate moments

-- those that are sent
abbrev pub sent : Parts → List Moment → List Item
sent config moments = reached config Sent moments

-- a limit held it back, and it counts: it is not of the internal event that reports them
abbrev pub is_held : Parts → Ending → Bool
is_held config one = is_limited one.fate && not (is_given config.limited one.item.event)

-- those that are held back and count
abbrev pub held : Parts → List Moment → List Item
held config moments = items_where (is_held config) (endings config moments)

-- it is qualified, and its event is to be stored
abbrev pub stores : Parts → Ending → Bool
stores config one = reaches AtSend one && (event_at config one.item.event).store
