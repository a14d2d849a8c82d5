-- What contracts see of a relay's ends.
use Rattle.std.specs.Prelude.{◌≡◌, ℕ, ◌<◌, ◌≤◌, List, [], length, slice_index_or}
use Rattle.crossbeam_queue.specs.Passes.{view, IsPassOf, ruled_capacity}
use Rattle.ids_reporter.specs.declared.drain.Drain.{Drain}
use Rattle.ids_reporter.specs.declared.feeder.Feeder.{Feeder}
use Rattle.ids_reporter.specs.declared.relay.Relay.{Relay}
use Rattle.ids_reporter.specs.declared.rule.Taken.{Taken}
use Rattle.ids_reporter.specs.declared.rule.Known.{Known}
use Rattle.ids_reporter.specs.declared.rule.Known.TheVariants.{Feeds, Drains}
use Rattle.ids_reporter.specs.Rule.{indexes, AreInOrder, made_in, taken_in, back_in, IsDraining, IsBack, HasEnded, AreWithin}

-- a feeder's number
abbrev pub number_of : Feeder → ℕ
number_of feeder = feeder.source

-- how many pairs it put
abbrev pub puts_of : Feeder → ℕ
puts_of feeder = feeder.puts

-- it is the feeder of this number, of this relay, and put so many pairs
pub record IsAt (relay : Relay) (s n : ℕ) (feeder : Feeder) : Type 0 where
  pub of_relay : IsPassOf relay.line feeder.pass
  pub number : number_of feeder ≡ s
  pub puts : puts_of feeder ≡ n
  pub knows : view feeder.pass ≡ Feeds (number_of feeder) (puts_of feeder)

-- it is a feeder of this relay
abbrev pub IsFeederOf : Relay → Feeder → Type 0
IsFeederOf relay feeder = IsAt relay (number_of feeder) (puts_of feeder) feeder

-- feeders of this relay, in the order of their numbers; each put so many pairs
abbrev pub AreAt : Relay → (ℕ → ℕ) → List Feeder → Type 0
AreAt relay puts feeders = (i : ℕ) (d : Feeder) → i < length feeders → IsAt relay i (puts i) (slice_index_or feeders i d)

-- it is the feeder of this number, of this relay, and put at most so many pairs
pub record IsFeeding (relay : Relay) (s most : ℕ) (feeder : Feeder) : Type 0 where
  pub at : IsAt relay s (puts_of feeder) feeder
  pub few : puts_of feeder ≤ most

-- what the drain knows
abbrev pub known : Drain → Known
known drain = view drain.pass

-- how many feeders were made, the pairs that were taken, and the feeders that are back, each with how many it put
abbrev pub feeders_of : Drain → ℕ
feeders_of drain = made_in (known drain)

abbrev pub taken_of : Drain → List Taken
taken_of drain = taken_in (known drain)

abbrev pub back_of : Drain → List (ℕ × ℕ)
back_of drain = back_in (known drain)

-- it is the drain of this relay: of each feeder it took the pairs 0, 1, 2 and so on, of one that is back at most as
-- many as it put, and none of one that was never made
pub record IsDrainOf (relay : Relay) (drain : Drain) : Type 0 where
  pub of_relay : IsPassOf relay.line drain.pass
  pub drains : IsDraining (known drain)
  pub in_order : AreInOrder (taken_of drain)
  pub within : AreWithin (known drain)

-- of each feeder that is back as many pairs were taken as it had put
abbrev pub AreAllTaken : Drain → Type 0
AreAllTaken drain = (s n : ℕ) → HasEnded s n (known drain) → length (indexes s (taken_of drain)) ≡ n

-- if the pair's feeder is back, not as many of its pairs were taken as it had put
abbrev pub IsLeft : Drain → Taken → Type 0
IsLeft drain pair = (n : ℕ) → HasEnded pair.source n (known drain) → length (indexes pair.source (taken_of drain)) < n

-- the drain took this feeder back
abbrev pub IsBackIn : Drain → Feeder → Type 0
IsBackIn drain feeder = IsBack (number_of feeder) (puts_of feeder) (back_of drain)

-- a relay of this capacity, its drain, which took nothing, and its feeders, which put nothing
pub record IsNewRelay (capacity count : ℕ) (relay : Relay) (drain : Drain) (feeders : List Feeder) : Type 0 where
  pub capacity_is : ruled_capacity relay.line ≡ capacity
  pub is_drain : IsDrainOf relay drain
  pub is_new : known drain ≡ Drains count [] []
  pub are_new : AreAt relay (λ i. 0) feeders
  pub all : length feeders ≡ count
