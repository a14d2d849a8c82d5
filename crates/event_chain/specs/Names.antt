-- The names of other crates that several files of this crate cite.
pub use Rattle.chain_spec.specs.{EndBy, Ending, Item, Moment, Occurrence, act_moment, by_window, closes, closing_of, closing_ticks, closings, comes, counted, ending_at, endings, fate_from, handed_on, head_moment, heads_of, is_held, item_at, items_where, mode_at, moments, place_of, reached, reaches, sampled, spelled, state_at, stored_of, stores, told_by, verdict, weighed, with_all}
pub use Rattle.chain_spec.specs.declared.fate.Fate.{Fate}
pub use Rattle.chain_spec.specs.declared.fate.Fate.TheVariants.{AtMode, AtRate, AtSend, AtThreshold, AtTraffic, InWindow, Sent}
pub use Rattle.chain_spec.specs.Quiet.{NoneDue}
pub use Rattle.event_memory.specs.{Stands as MemoryStands}
pub use Rattle.filter_aggregate.specs.{Accounts, Stands as WindowsStand, all_kept, fresh_slot, is_due, slot_at, slot_by, slots_by, slot_of}
pub use Rattle.filter_aggregate.specs.declared.slot.Slot.{Slot}
pub use Rattle.filter_chain.specs.{HandsBack, all_parcels, carried_room, newest_tick, parcel_of, rows_of}
pub use Rattle.filter_gate.specs.Stands.{Stands as GateStands, with_context}
pub use Rattle.filter_threshold.specs.Counting.{Stands as ThresholdsStand}
pub use Rattle.ids_config.specs.Parts.{Event, Parts, event_at, internal_of, plain_event}
pub use Rattle.ids_types.specs.{Turn, act_by, entry_by, room_of}
pub use Rattle.ids_types.specs.Output.{Output}
pub use Rattle.ids_types.specs.declared.entry.Entry.{Entry}
pub use Rattle.ids_types.specs.declared.event.Qualified.{Qualified}
pub use Rattle.ids_types.specs.declared.internal.Internal.{Internal}
pub use Rattle.ids_types.specs.declared.names.EventIndex.{EventIndex}
pub use Rattle.internal_events.specs.HeadView.{head_told}
pub use Rattle.limits.specs.Limiting.{Stands as LimitsStand, answer_to}
pub use Rattle.message_sender.specs.{HasSixBits, IsSenderOf, IsShort, SenderParts, TakesOne, most_message, source_in, source_of}
pub use Rattle.message_sender.specs.declared.sources.Source.{Source}
pub use Rattle.std.specs.Bool.{IsFalse}
pub use Rattle.std.specs.List.{All, AllByRecursion, list_any, range_with_len}
pub use Rattle.std.specs.declared.alloc.Global.{Global}
