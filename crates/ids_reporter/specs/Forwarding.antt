-- What is forwarded: the messages that the taken pairs name, which are all sources merged.
use Rattle.std.specs.Prelude.{◌≡◌, ℕ, ◌<◌, ◌≤◌, ◌==◌, List, length, filter, Option, slice_get, slice_index_or, OnOk}
use Rattle.std.specs.List.{filter_map, AllByRecursion}
use Rattle.ids_frame.specs.{MessageParts, joined}
use Rattle.ids_reporter.specs.declared.drain.Drain.{Drain}
use Rattle.ids_reporter.specs.declared.feeder.Feeder.{Feeder}
use Rattle.ids_reporter.specs.declared.index.Instance.TheVariants.{One}
use Rattle.ids_reporter.specs.declared.outlet.Outlet.{Outlet}
use Rattle.ids_reporter.specs.declared.relay.Relay.{Relay}
use Rattle.ids_reporter.specs.declared.rule.Taken.{Taken}
use Rattle.ids_reporter.specs.Rule.{indexes, upto, AreInOrder}
use Rattle.ids_reporter.specs.Relays.{IsDrainOf, IsFeeding, taken_of, feeders_of, back_of}
use Rattle.ids_reporter.specs.Sources.{AreSmall, Sources, count_at, instance_of, source_at}

-- the message that a pair names
abbrev pub named_by : Sources → Taken → Option MessageParts
named_by sources pair = slice_get (source_at sources pair.source) pair.index

-- the messages that the pairs name, in their order
abbrev pub named : Sources → List Taken → List MessageParts
named sources pairs = filter_map (named_by sources) pairs

-- the messages of each source's instance are the source's, in their order, and there are no others
pub record AreMerged (sources : Sources) (messages : List MessageParts) : Type 0 where
  pub each : (s i : ℕ) → instance_of (source_at sources s) ≡ One i → filter (λ (m : MessageParts). m.instance == i) messages ≡ source_at sources s
  pub no_other : AllByRecursion (λ (m : MessageParts). (s : ℕ) × (s < length sources) × (instance_of (source_at sources s) ≡ One m.instance)) messages

-- all pairs of each source were taken, in their order; the bytes are the messages that they name, and these are the
-- sources merged
pub record IsForwarded (sources : Sources) (drain : Drain) (out : List ℕ) : Type 0 where
  pub in_order : AreInOrder (taken_of drain)
  pub all : (s : ℕ) → indexes s (taken_of drain) ≡ upto (count_at sources s)
  pub bytes : out ≡ joined (named sources (taken_of drain))
  pub merged : AreMerged sources (named sources (taken_of drain))

-- the drain is this relay's, and what it took is written
pub record IsWorking (relay : Relay) (sources : Sources) (outlet : Outlet) : Type 0 where
  pub drain : IsDrainOf relay outlet.drain
  pub out : OnOk outlet.written (outlet.out.items ≡ joined (named sources (taken_of outlet.drain)))

-- there are sources that can be put; each has its feeder, of this relay, which put no more pairs than it has messages
pub record AreFeeding (relay : Relay) (sources : Sources) (feeders : List Feeder) : Type 0 where
  pub some : 1 ≤ length sources
  pub small : AreSmall sources
  pub all : length feeders ≡ length sources
  pub each : (i : ℕ) (d : Feeder) → i < length feeders → IsFeeding relay i (count_at sources i) (slice_index_or feeders i d)

-- so it is still; and the same feeders were made, and the same are back
abbrev pub StaysAtWork : Relay → Sources → Outlet → Outlet → Type 0
StaysAtWork relay sources old new =
    IsWorking relay sources new × (feeders_of new.drain ≡ feeders_of old.drain) × (back_of new.drain ≡ back_of old.drain)
