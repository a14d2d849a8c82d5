-- What comes to the threshold filter: how often an event occurred, and when.
use Rattle.std.specs.Prelude.{ℕ, ◌==◌, List, filter}
use Rattle.chain_spec.specs.Items.{Item}

-- an event occurred so often at a tick
pub record Occurrence : Type 0 where
  pub event : ℕ
  pub tick : ℕ
  pub count : ℕ

-- those of one event
abbrev pub among : ℕ → List Occurrence → List Occurrence
among event occurrences = filter (λ one. one.event == event) occurrences

-- what the threshold filter sees of an item
abbrev pub counted : Item → Occurrence
counted item = record { event = item.event; tick = item.tick; count = item.count }
