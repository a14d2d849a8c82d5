pub mod Account
pub mod Slots
pub mod Standing
pub use Rattle.filter_aggregate.specs.Account.{Accounts, kept_in, all_kept}
pub use Rattle.filter_aggregate.specs.Slots.{fresh_slot, slot_at, HaveIntervals, held_in, has_passed, is_due, item_due, slot_closed, after_closing, keeps_last, kept_of, spare_of, with_item, window_with, slot_with, after_arrival, open_by, slot_by, slots_by}
pub use Rattle.filter_aggregate.specs.Standing.{kept_window, slot_after, slot_of, Stands}
