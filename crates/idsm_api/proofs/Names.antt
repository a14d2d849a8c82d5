-- The names of other crates and of this crate's specs that more than one of its proofs stands on.
pub use Rattle.std.proofs.Common.{◌≡◌, ℕ, ◌+◌, ◌≤◌, ◌∙◌, List, [], ◌∷◌, length, map, refl, sym, ap, arith, rules, ◌<◌, ◌++◌, reverse, slice_index_or, sum_by, vec_capacity, is_some, vec_len}
pub use Rattle.std.proofs.lemmas.List.{length-map, append_assoc, map_push, reverse-append}
pub use Rattle.std.specs.Arc.{arc_value}
pub use Rattle.std.specs.List.{All}
pub use Rattle.ids_types.specs.Output.{Output, room_of}
pub use Rattle.ids_config.specs.Parts.{Parts}
pub use Rattle.report_api.specs.declared.pass.Pass.{Pass}
pub use Rattle.report_api.specs.declared.shared.Shared.{Shared}
pub use Rattle.idsm_api.specs.{Caller, IsFitCaller, caller_shares, chain_events, chain_kept, chain_stands, manager_shares, log_in}
pub use Rattle.idsm_api.specs.declared.manager.Manager.{Manager}
pub use Rattle.atomic_table.proofs.Lists.{at_map}
pub use Rattle.buffer_classes.specs.Buffers.{Buffer}
pub use Rattle.filter_chain.specs.Turning.{most_sent}
pub use Rattle.law_closing.specs.Calls.{accepted_in}
pub use Rattle.main_function.specs.{AreCountsOf, AreAllPasses, IsNewManager}
pub use Rattle.permit_ring.proofs.ListLemmas.{at_length, there}
pub use Rattle.report_api.specs.{desk_memo, PassMemo, IsPassOf, lost_events, missing_in, pass_memo, sizes_of, CarriesAll, Given, ReportTells, act_with, calls_in, call_of, lost_contexts}
pub use Rattle.report_queue.specs.Parts.{queue_seats, ticket_of}
pub use Rattle.std.proofs.lemmas.Grind.{common_steps}
