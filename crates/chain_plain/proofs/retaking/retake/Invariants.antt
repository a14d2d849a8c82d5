use Rattle.chain_plain.proofs.Names.{Parts, All, AllByRecursion, ◌≡◌, ◌++◌, [], List, length, reverse, Turn, AreInOrder, CanTake, IsReady, IsShort}
use Rattle.chain_plain.proofs.retaking.retake.Given as goal

-- the chain stands for the turns that were taken, if they are in order, and what is left can be taken
abbrev pub invariant-loop-head : goal.invariant-loop-head
invariant-loop-head g l =
    let many = g.C.Chain.events l.fn.chain in
    (taken : List Turn) × record {
      whole : taken ++ l.turns ≡ l.history.turns;
      stands : (config : Parts) → g.C.Chain.stands l.fn.chain config [] → AreInOrder (reverse taken)
          → g.C.Chain.stands l.chain config taken;
      all_events : g.C.Chain.events l.chain ≡ many;
      kept : All (IsShort (λ p. p.0.now)) (g.C.Chain.kept l.chain);
      ready : IsReady many l.desk;
      turns_fit : AllByRecursion (CanTake many) l.turns;
    }

abbrev pub decreases-loop-head : goal.decreases-loop-head
decreases-loop-head g l = length l.turns
