-- The names of other crates and of this crate's specs that more than one of its proofs stands on.
pub use Rattle.std.proofs.Common.{◌≡◌, ℕ, suc, ◌+◌, ◌-◌, ◌*◌, List, [], ◌∷◌, length, map, refl, ap, ◌∙◌, inl, arith, Some, ◌≤◌, ◌<◌, None, get_or, sym, All, slice_index_or, is_some, true, Option, ◌++◌, Ok, Err, rules, true≢false, inr, ◌≢◌, ◌⊎◌, slice_set, take, vec_capacity}
pub use Rattle.std.proofs.lemmas.List.{get_or_default, length-map, length-replicate, append-nil, length_push, map-append, map_push, length-set, nil_from_length}
pub use Rattle.atomic_table.proofs.Lists.{at_index, at_map, at_set, set_here, set_else}
pub use Rattle.buffer_classes.proofs.AskLemmas.{lost_past, below_or, nothing_past}
pub use Rattle.buffer_classes.specs.{Buffer, asked, lost_at, RiseFrom, givers_of, AreSpecs, IsSpec, AllOf, GaveBack, giver_memo, Welcomed, log_of, AreNewClasses, spec_sizes, first_fitting, Freed, IsClaimSeatOf, IsHeldClaimant, memo_at}
pub use Rattle.buffer_classes.specs.declared.class.Class.{Class}
pub use Rattle.buffer_classes.specs.declared.giver.Giver.{Giver}
pub use Rattle.ids_config.specs.Parts.{Parts, class_of}
pub use Rattle.ids_types.specs.declared.names.Ticket.{Ticket}
pub use Rattle.history_spec.specs.Follows.{KeptAsks, lost_number, small_of, CallAsks, Follows}
pub use Rattle.permit_ring.specs.{seat_memo, ended, ticket_in, resumed, resumes}
pub use Rattle.report_queue.specs.{IsNewQueue, caller_memo, queue_seats, ticket_of, ClaimTells, adds_mark, finishes, item_by, queue_positions, GoesOn, IsHeldCaller}
pub use Rattle.report_api.specs.{Got, fate_of, IsControl, Act, misses_context, plain_act, AreTied, desk_memo, BoxedAct, Caller, IsNewMaking, IsNewPass, IsOfConfig, as_passes, IsPassOf, IsShared, pass_memo, lost_events, lost_contexts, sizes_of, Outcome, Lost, IsPassAt, asks_of, call_of, calls_in, missing_in, PassMemo, log_at, to_give_back, IsDeskOf, IsNextPass, IsHeldPass, Absent, Kept}
pub use Rattle.report_api.specs.declared.pass.Pass.{Pass}
pub use Rattle.report_api.specs.declared.shared.Shared.{Shared}
pub use Rattle.permit_ring.proofs.{some_there, gave_of, at_length, there}
pub use Rattle.report_queue.proofs.{claimed, holds_ticket, none_there}
pub use Rattle.std.proofs.lemmas.Grind.{common_steps}
pub use lib.ListN.{get_elem?}
pub use mathlib.Core.Option.{some}
pub use Rattle.report_api.specs.declared.desk.Desk.{Desk}
