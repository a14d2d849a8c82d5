use Rattle.cmd_disk.proofs.Names.{All, AllByRecursion, CanTake, IsReady, IsTrue, KeepsRows, LeavesOnly, List, RiseFrom, Row, Turn, last_tick, length, lent, reverse, ◌++◌, ◌+◌, ◌≡◌}
use Rattle.filter_chain.specs.Parcels.{IsShort}
use Rattle.event_chain.specs.Chained.{chain_events, chain_kept}
use Rattle.event_chain.specs.Standing.{Stands}
use Rattle.cmd_disk.proofs.SavingLemmas.{IsSavedTo}
use Rattle.cmd_disk.proofs.saving.save_turns.Given as goal

-- the chain stands for the turns that were taken, what is left can be taken, and the records after each turn that
-- was taken were saved
abbrev pub invariant-loop-head : goal.invariant-loop-head
invariant-loop-head g l =
    let many = length l.config.events in
    let shows = g.D.Disk.shows in
    record {
      taken : List Turn;
      whole : taken ++ l.turns ≡ l.history.turns;
      saves_are : l.saves ≡ length taken;
      stands : Stands lent l.config (reverse taken) l.folding.chain;
      all_events : chain_events l.folding.chain ≡ many;
      kept : All (IsShort lent) (chain_kept l.folding.chain);
      ready : IsReady many l.folding.desk;
      turns_fit : AllByRecursion (CanTake many) l.turns;
      ticks : RiseFrom (last_tick taken) l.turns;
      tells : (shows l.current.disk).tells ≡ (shows l.fn.store.disk).tells;
      faults : (shows l.current.disk).faults ≡ (shows l.fn.store.disk).faults;
      sequence : l.current.sequence ≡ l.fn.store.sequence + l.saves;
      saved : IsTrue (shows l.fn.store.disk).tells → (was : List Row)
          → LeavesOnly (λ bytes. KeepsRows bytes l.fn.store.sequence was) (shows l.fn.store.disk).run.now
          → IsSavedTo (record { config = l.config; turns = l.history.turns; base = l.fn.store.sequence; was = was })
          l.saves (shows l.fn.store.disk).run (shows l.current.disk).run;
    }

abbrev pub decreases-loop-head : goal.decreases-loop-head
decreases-loop-head g l = length l.turns
