pub mod Accounts
pub mod Aggregation
pub mod ByEvent
pub mod Chain
pub mod Counting
pub mod Fates
pub mod Gate
pub mod Growth
pub mod Heads
pub mod Items
pub mod Limits
pub mod Lists
pub mod Memory
pub mod Messages
pub mod Moments
pub mod OpenWindows
pub mod Quiet
pub mod Stages
pub mod Steps
pub mod Storing
pub mod Threshold
pub mod Way
pub mod Windows
pub use Rattle.chain_spec.specs.Accounts.{number_at, since_given, account_by, ended_at, account_of, comers, AreConfigured, events_in, limited_events_in, TellsWindows}
pub use Rattle.chain_spec.specs.Aggregation.{first_kept, last_kept, kept_of, count_of}
pub use Rattle.chain_spec.specs.ByEvent.{tick_of, every, first_from, closed_item, closed_items, reaching}
pub use Rattle.chain_spec.specs.Chain.{qualified_of, messages, message_count, ends, held_count, handed_on, handed, IsCausal}
pub use Rattle.chain_spec.specs.Counting.{Occurrence, among, counted}
pub use Rattle.chain_spec.specs.Fates.{place_of, all_steps, last_filter, steps_from, begins, first_that, IsFirstThat, fate_name, is_qualified, is_limited}
pub use Rattle.chain_spec.specs.Gate.{is_filtered, is_bypassing, is_detailed, mode_at, state_at, is_blocked, item_in}
pub use Rattle.chain_spec.specs.Growth.{EndsWith, BeginsWith, Grows, GrowsAtEnd}
pub use Rattle.chain_spec.specs.Heads.{Head, head_for, heads_of}
pub use Rattle.chain_spec.specs.Items.{Item, is_of, number_of, told_of, item_at, told_by, kept_parcel}
pub use Rattle.chain_spec.specs.Limits.{Candidate, window_at, those_in, load, has_room, passes_rate, passes_traffic, sent_of, is_let_out}
pub use Rattle.chain_spec.specs.Lists.{reached, arrivals, sampled, aggregated, thresholded, qualified, candidates, sent, is_held, held, stores}
pub use Rattle.chain_spec.specs.Memory.{Stored, event_of, has_event, events_of, since, renews, run_of, oldest_tick, row_over, row_of, newest_rows, memory_of}
pub use Rattle.chain_spec.specs.Messages.{byte_7, message_of, weighed, spelled}
pub use Rattle.chain_spec.specs.Moments.{closes, comes, Moment, state_is, mode_is, head_moment, act_moment, closings, turn_moments, moments}
pub use Rattle.chain_spec.specs.OpenWindows.{closing_of, closing_ticks, is_due, newest_where, open_window, joined, closing_item}
pub use Rattle.chain_spec.specs.Stages.{added, placed, HaveOwnPlaces, where_true, passed, with_all}
pub use Rattle.chain_spec.specs.Steps.{Seen, is_nth, holds}
pub use Rattle.chain_spec.specs.Storing.{stored_of, stored, memory, is_stored}
pub use Rattle.chain_spec.specs.Threshold.{newest_sum, verdict}
pub use Rattle.chain_spec.specs.Way.{Ending, begun_at, ends_at, reaches, passes, by_window, items_where, seen_at, fate_from, ended, first_under, given, ending_after, endings, ending_at}
pub use Rattle.chain_spec.specs.Windows.{EndBy, Window, opened, extended, members, covers, in_newest, with_item, windows_of, sum_of, openers, IsBeyond, AreApart}
