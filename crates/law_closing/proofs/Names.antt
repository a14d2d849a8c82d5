-- The names of other crates that several files of this crate cite.
pub use Rattle.atomic_table.proofs.Lists.{at_map}
pub use Rattle.buffer_classes.specs.declared.class.Classes.{Classes}
pub use Rattle.history_spec.specs.{tickets_from, tickets_of, entries_by, entries_from, class_at, AreDecided, IsSettledLog, AreSettled, and_front, fronts_from, sizes_in, too_small}
pub use Rattle.ids_config.specs.Parts.{Parts}
pub use Rattle.ids_types.proofs.FatesLemmas.{decided_on}
pub use Rattle.permit_ring.proofs.{got_from, some_there, at_length, there}
pub use Rattle.report_api.specs.{Act, Outcome, Lost, Got, calls_in, fate_of, asks_back, desk_memo, PassMemo, call_of}
pub use Rattle.report_queue.specs.{NamesItsCalls, got_of, items_of, IsAllTaken, AreAllBack, IsWholeCaller}
pub use Rattle.report_queue.specs.declared.cargo.Item.{Item}
pub use Rattle.std.proofs.Common.{◌≡◌, ℕ, suc, List, ◌∷◌, slice_index_or, ◌≢◌, zero, ◌+◌, [], map, refl, sym, ◌∙◌, cond, eqb, ne_eqb, arith, ◌≤◌, Some, ap, nat_lt, length, ◌<◌, if◌then◌else◌, sum_by, true≢false, Option, None, inl, inr, ◌++◌, subst}
pub use Rattle.std.proofs.lemmas.Bool.Decides.{nat_tests}
pub use Rattle.std.proofs.lemmas.List.{length-map, get_or_past}
pub use lib.ListN.{get_elem?}
pub use mathlib.Core.Option.{some, some-injective}
pub use Rattle.law_closing.specs.{HaveAllCalls, StandInOneOrder, came, calls_by, fates_in, ClosedDesk, GiversHaveNumbers, HaveNumbers, plain_item, accepted_in, HaveSizes}
