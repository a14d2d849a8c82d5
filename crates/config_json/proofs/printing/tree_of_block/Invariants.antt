use Rattle.config_json.proofs.PrintedLemmas.{◌≡◌, ◌++◌, map, drop, view, whole}
use Rattle.config_json.proofs.printing.tree_of_block.Given as goal

-- the trees of the rest, after those that were made, are the trees of all
abbrev pub invariant-loop-state : goal.invariant-loop-state
invariant-loop-state l =
    map view l.trees.items ++ map whole (drop l.state-index l.block)
    ≡ map whole l.block
