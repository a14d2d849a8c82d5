-- The gate of a configuration, before anything came.
use Rattle.filter_gate.proofs.Names.{◌≡◌, ◌<◌, List, [], map, arith, All, zero-mod, Event, Parts, event_at, plain_event, IsEvent, IsValid, Gate, fresh_row, Stands}
use Rattle.std.proofs.lemmas.List.{get_or-map, length-map}
use Rattle.std.proofs.lemmas.List.Elements.{All-from_recursion}

-- each n of a valid configuration is above 0
pub all_positive : (config : Parts) (events : List Event) → events ≡ config.events → IsValid config → All (λ event. 0 < event.nth) events
all_positive config events same valid k d within =
    let is = All-from_recursion (IsEvent config.profile) config.events valid.events k d in
    grind (arith, is, same)

-- fresh rows stand before anything came
pub stands_before : (config : Parts) (gate : Gate) → gate.state ≡ config.state → gate.rows ≡ map fresh_row config.events → Stands config [] gate
stands_before config gate same rows = record {
  state = same;
  events = rw rows (length-map config.events fresh_row);
  rows = λ k within. grind (
    arith,
    same,
    rows,
    zero-mod (event_at config k).nth,
    length-map config.events fresh_row,
    get_or-map fresh_row config.events k (plain_event 0 0),
  );
}
