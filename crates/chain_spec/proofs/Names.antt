-- The names of other crates and of this crate's specs that more than one of its proofs stands on.
pub use Rattle.std.proofs.Common.{◌≡◌, ℕ, ◌+◌, ◌<◌, ◌≤◌, ◌==◌, not, Bool, true, false, List, [], ◌∷◌, ◌++◌, filter, filter_map, Option, Some, None, IfSome, is_some, nat_le, option_to_list, option_and_then, option_map, if◌then◌else◌, refl, sym, ap, ◌∙◌, arith, zero, suc, ◌&&◌, ◌%◌, length, map, eq-eqb, inl, inr, ◌↔◌, ◌⊎◌, append_assoc, append-nil, length-append, sum_by, flat_map, ◌*◌, ◌-◌, take, reverse, sum, drop, nat_lt, codes, replicate}
pub use Rattle.std.proofs.lemmas.Bool.{cases_Bool, cases_lt}
pub use Rattle.std.proofs.lemmas.List.{map-append, length-map, get_or_past}
pub use Rattle.std.proofs.lemmas.List.Elements.{filter-append, All-from_recursion, All-cons, All-nil}
pub use Rattle.std.proofs.lemmas.List.Kept.{AllPairs-cons}
pub use Rattle.std.proofs.lemmas.List.Sums.{sum_by-cons}
pub use Rattle.std.specs.List.{AllByRecursion, list_any, range_with_len, All}
pub use Rattle.ids_config.specs.Parts.{Parts, event_at, internal_of, Event, plain_event, is_given}
pub use Rattle.ids_config.specs.declared.parts.Aggregate.{Aggregate}
pub use Rattle.ids_types.specs.Turns.{Turn}
pub use Rattle.ids_types.specs.declared.entry.Act.{Act}
pub use Rattle.ids_types.specs.declared.entry.Act.TheVariants.{Report, State, SetMode}
pub use Rattle.ids_types.specs.declared.entry.Entry.{Entry}
pub use Rattle.ids_types.specs.declared.mode.Mode.{Mode}
pub use Rattle.ids_types.specs.declared.mode.Mode.TheVariants.{Off, Brief, Detailed, BriefBypassing, DetailedBypassing}
pub use Rattle.chain_spec.specs.declared.account.Account.{Account}
pub use Rattle.chain_spec.specs.{AreApart, AreConfigured, BeginsWith, EndBy, Ending, EndsWith, Grows, GrowsAtEnd, HaveOwnPlaces, Head, IsBeyond, IsCausal, IsFirstThat, Item, Moment, Seen, TellsWindows, Window, account_by, account_of, act_moment, added, aggregated, all_steps, among, arrivals, begins, begun_at, by_window, candidates, closed_item, closed_items, closes, closing_item, closing_ticks, closings, comers, comes, counted, covers, ended, ended_at, ending_after, ending_at, endings, ends, ends_at, events_in, every, extended, fate_from, first_from, first_that, first_under, given, handed, handed_on, head_moment, heads_of, held, held_count, holds, is_bypassing, is_due, is_held, is_limited, is_of, is_stored, item_in, items_where, joined, last_filter, limited_events_in, members, message_of, messages, mode_at, moments, newest_where, number_at, number_of, opened, openers, passes, place_of, placed, qualified, reached, reaches, reaching, sampled, seen_at, sent, sent_of, since_given, spelled, state_at, steps_from, stored, stored_of, stores, thresholded, tick_of, turn_moments, verdict, weighed, where_true, windows_of, with_all, with_item}
pub use Rattle.chain_spec.specs.Fates.{Fate, AtMode, AtBlock, AtNth, InWindow, AtThreshold, AtSend, AtRate, AtTraffic, Sent}
pub use Rattle.ids_config.proofs.Plain.{instance_18}
pub use Rattle.std.proofs.lemmas.Bool.Decides.{nat_tests}
