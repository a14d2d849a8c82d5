pub mod Held
pub mod MemoryView
pub mod Views
pub use Rattle.event_memory.specs.Held.{no_rows, no_row, is_of, stored, told, begun, added, after_beginning, after_adding, after_storing_at, after_storing, Stands}
pub use Rattle.event_memory.specs.Views.{plain_row, plain_item}
