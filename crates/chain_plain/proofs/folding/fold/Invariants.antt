use Rattle.chain_plain.proofs.Names.{All, AllByRecursion, ◌≡◌, ◌++◌, List, length, Turn, last_tick, IsShort, CanTake, RiseFrom, IsReady, Tells}
use Rattle.chain_plain.proofs.folding.fold.Given as goal

-- the chain stands for the turns that were taken, the tally tells of them, and what is left can be taken
abbrev pub invariant-loop-head : goal.invariant-loop-head
invariant-loop-head g l =
    let many = length l.config.events in
    (taken : List Turn) × record {
      whole : taken ++ l.turns ≡ l.history.turns;
      stands : g.C.Chain.stands l.chain l.config taken;
      tells : Tells l.config taken l.tally;
      all_events : g.C.Chain.events l.chain ≡ many;
      kept : All (IsShort (λ p. p.0.now)) (g.C.Chain.kept l.chain);
      ready : IsReady many l.desk;
      turns_fit : AllByRecursion (CanTake many) l.turns;
      ticks : RiseFrom (last_tick taken) l.turns;
    }

abbrev pub decreases-loop-head : goal.decreases-loop-head
decreases-loop-head g l = length l.turns
