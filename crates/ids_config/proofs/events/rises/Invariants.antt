use Rattle.std.proofs.Common.{◌≡◌, ◌≤◌, drop}
use Rattle.ids_config.specs.Values.{rises as rise}
use Rattle.ids_config.proofs.events.rises.Given as goal

-- the rest rises from the bound so far exactly where all states rise
abbrev pub invariant-loop-state : goal.invariant-loop-state
invariant-loop-state l =
    (rise l.least (drop l.state-index l.block) ≡ rise 0 l.block)
    × (l.least ≤ 256)
