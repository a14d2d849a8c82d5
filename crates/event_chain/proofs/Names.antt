-- The names of other crates and of this crate's specs that more than one of its proofs stands on.
pub use Rattle.std.proofs.Common.{◌≡◌, ℕ, ◌≤◌, Bool, true, false, List, [], ◌∷◌, ◌++◌, length, Option, Some, None, IfSome, is_some, option_to_list, option_map, refl, arith, ◌+◌, ◌<◌, zero, suc, map, filter, sym, ap, subst, ◌∙◌, below_more, if◌then◌else◌, rules, get_or, take, drop, reverse, ◌↔◌, drop-set-lt, length-set, append_assoc, append-nil, vec_capacity, Vec, ◌-◌, ◌||◌}
pub use Rattle.std.proofs.lemmas.Bool.Decides.{nat_tests}
pub use Rattle.std.proofs.lemmas.Grind.{common_steps}
pub use Rattle.std.proofs.lemmas.List.{length-map, set-get_or, map-append, take_all, take_more, drop_more, reverse-append, get_or-map, get_or_past, drop_all}
pub use Rattle.std.proofs.lemmas.List.Elements.{All-from_recursion, All-head, recursion_from_All}
pub use Rattle.std.proofs.lemmas.List.Sorted.{All-permutation, IsPermutation-refl, IsPermutation-trans, IsPermutation-append_right, length_permutation, sum_by-IsPermutation}
pub use Rattle.filter_chain.specs.{Sends, last_tick, IsShort, turn_by}
pub use Rattle.chain_spec.proofs.CoverLemmas.{end_later, end_of_some}
pub use Rattle.chain_spec.proofs.StageLemmas.{with_all-append}
pub use Rattle.filter_aggregate.proofs.StandsLemmas.{due_closes, stands_alone, stands_beside, stands_closing}
pub use Rattle.filter_gate.proofs.StandsLemmas.{stands_with_closing}
pub use Rattle.event_chain.specs.Names.{rows_of, Accounts, All, AtMode, AtRate, AtSend, AtThreshold, AtTraffic, EndBy, Ending, Event, EventIndex, GateStands, Global, HandsBack, InWindow, Internal, IsFalse, Item, LimitsStand, Moment, Output, Parts, SenderParts, Sent, Slot, Source, ThresholdsStand, Turn, WindowsStand, all_kept, all_parcels, carried_room, closes, closing_of, comes, counted, ending_at, endings, event_at, fate_from, fresh_slot, head_moment, head_told, heads_of, internal_of, is_due, items_where, list_any, moments, most_message, newest_tick, parcel_of, place_of, plain_event, range_with_len, reached, reaches, slot_at, slot_by, slots_by, source_in, source_of, verdict, weighed, with_all, with_context, answer_to, NoneDue}
pub use Rattle.event_chain.specs.{IsOneOf, IsSound, Watched, Knowing, here, entry_moments, bare, Weighs, Follows, start_by, BeginsBy, Start, start_of, HasSent, Went, ended_tick, EndAt, IsBehind, Leads, HasLeft, Moved, Windowed, aggregating_in, is_aggregated, HasPlaces, TakesRoom, Stays, AreOwn, StandsWatched}
pub use Rattle.event_chain.specs.declared.rest.Rest.{Rest}
pub use Rattle.event_chain.specs.declared.way.Way.{Way}
