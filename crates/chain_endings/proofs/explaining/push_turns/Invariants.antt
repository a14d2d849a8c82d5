use Rattle.chain_endings.proofs.Lemmas.{CanTake, RiseFrom, IsReady, Turn, ◌≡◌, ◌++◌, [], List, length, reverse, All, AllByRecursion, text_of, turns_lines, Hears, last_tick, IsShort, StandsWatched}
use Rattle.event_chain.specs.Chained.{chain_events, chain_kept}
use Rattle.chain_endings.proofs.explaining.push_turns.Given as goal

-- the chain stands for the turns that were taken, their lines have been printed, and what is left can be taken
abbrev pub invariant-loop-head : goal.invariant-loop-head
invariant-loop-head l =
    let many = length l.config.events in
    (taken : List Turn) × record {
      whole : taken ++ l.turns ≡ l.history.turns;
      stands : StandsWatched (λ p. p.0.now) Hears l.config (reverse taken) l.chain;
      text : l.out.items ++ text_of (turns_lines l.config (reverse taken) l.turns)
          ≡ l.initial.out.items ++ text_of (turns_lines l.config [] l.history.turns);
      count : l.turn ≡ length taken;
      all_events : chain_events l.chain ≡ many;
      kept : All (IsShort (λ p. p.0.now)) (chain_kept l.chain);
      ready : IsReady many l.desk;
      turns_fit : AllByRecursion (CanTake many) l.turns;
      ticks : RiseFrom (last_tick taken) l.turns;
    }

abbrev pub decreases-loop-head : goal.decreases-loop-head
decreases-loop-head l = length l.turns
