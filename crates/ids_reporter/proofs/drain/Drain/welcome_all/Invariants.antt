use Rattle.ids_reporter.proofs.Names.{◌≡◌, ◌<◌, ◌≤◌, ℕ, length, take, get_or, IsBackIn, IsDrainOf, feeders_of, taken_of, Feeder}
use Rattle.ids_reporter.proofs.drain.Drain.welcome_all.Given as goal

-- the last feeders are back
abbrev pub invariant-loop-feeder : goal.invariant-loop-feeder
invariant-loop-feeder l = record {
  mine : IsDrainOf l.relay l.self;
  made : feeders_of l.self ≡ feeders_of l.initial.self;
  taken : taken_of l.self ≡ taken_of l.initial.self;
  rest : l.feeders.items ≡ take (length l.feeders.items) l.initial.feeders.items;
  back : (k : ℕ) (d : Feeder) → length l.feeders.items ≤ k → k < length l.initial.feeders.items → IsBackIn l.self (get_or l.initial.feeders.items k d);
}

abbrev pub decreases-loop-feeder : goal.decreases-loop-feeder
decreases-loop-feeder l = length l.feeders.items
