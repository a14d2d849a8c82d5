pub mod Forwarding
pub mod Relays
pub mod Rule
pub mod Sources
pub use Rattle.ids_reporter.specs.Forwarding.{named_by, named, AreMerged, IsForwarded, IsWorking, AreFeeding, StaysAtWork}
pub use Rattle.ids_reporter.specs.Relays.{number_of, puts_of, IsAt, IsFeederOf, AreAt, IsFeeding, known, feeders_of, taken_of, back_of, IsDrainOf, AreAllTaken, IsLeft, IsBackIn, IsNewRelay}
pub use Rattle.ids_reporter.specs.Rule.{indexes, upto, AreInOrder, made_in, taken_in, back_in, IsDraining, IsBack, HasEnded, AreWithin, with_taken, with_feeder, new_feeder, with_back, Fits, IsRelayed, HasPut, HasTaken, AddsUp}
pub use Rattle.ids_reporter.specs.declared.rule.Known.TheVariants.{Nothing, Feeds, Drains}
