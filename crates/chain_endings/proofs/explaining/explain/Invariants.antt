use Rattle.chain_endings.proofs.Lemmas.{◌≡◌, ◌++◌, [], map, drop, line_for, loses, text_of, turns_lines}
use Rattle.chain_endings.proofs.explaining.explain.Given as goal

-- the turns and the first losses have been printed, and with those that are left they are all
abbrev pub invariant-loop-loss : goal.invariant-loop-loss
invariant-loop-loss l =
    l.text.items ++ text_of (map (λ loss. line_for (loses loss)) (drop l.loss-index l.losses))
    ≡ text_of (turns_lines l.config [] l.history.turns) ++ text_of (map (λ loss. line_for (loses loss)) l.losses)
