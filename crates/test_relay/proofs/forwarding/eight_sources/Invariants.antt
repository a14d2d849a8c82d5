use Rattle.ids_reporter.proofs.Names.{◌≡◌, ℕ, ◌≤◌, length, vec_capacity, AreApart, AreSmall, instance_of, source_at}
use Rattle.ids_reporter.specs.declared.index.Instance.TheVariants.{One}
use Rattle.test_relay.proofs.forwarding.eight_sources.Given as goal

-- the first sources are there, of the instances up to this number
abbrev pub invariant-loop-i : goal.invariant-loop-i
invariant-loop-i l = record {
  count : length l.sources.items ≡ l.i;
  room : 8 ≤ vec_capacity l.sources;
  small : AreSmall l.sources.items;
  apart : AreApart l.sources.items;
  known : (s j : ℕ) → instance_of (source_at l.sources.items s) ≡ One j → j ≤ l.i;
}
