-- The names of other crates that several files of this crate cite.
pub use Rattle.buffer_classes.specs.{Buffer, AllOf, GaveBack, giver_memo, givers_of, filled_count, vacant_count, spec_sizes}
pub use Rattle.buffer_classes.specs.declared.giver.Giver.{Giver}
pub use Rattle.filter_chain.specs.{Sends, handed_of, all_parcels, last_tick, most_sent}
pub use Rattle.ids_config.specs.Parts.{Parts}
pub use Rattle.ids_types.specs.Output.{Output, room_of}
pub use Rattle.ids_types.specs.Turns.{Turn}
pub use Rattle.ids_types.specs.declared.entry.Entry.{Entry}
pub use Rattle.law_closing.specs.Closed.{plain_item, IsMadeFor}
pub use Rattle.report_api.specs.{DeskMemo, desk_memo, IsDeskOf, to_give_back, IsPassOf, pass_memo, sizes_of, PassMemo, lost_events, missing_in, Act, AdmitsItem, IsNewMaking}
pub use Rattle.report_api.specs.declared.desk.Desk.{Desk}
pub use Rattle.report_api.specs.declared.pass.Pass.{Pass}
pub use Rattle.report_api.specs.declared.shared.Shared.{Shared}
pub use Rattle.report_queue.specs.{OffersAll, ReapsToEnd, sweeps, queue_positions, welcomes}
