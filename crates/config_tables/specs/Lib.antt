pub mod Modes
pub mod Tables
pub use Rattle.config_tables.specs.Modes.{mode_at}
pub use Rattle.config_tables.specs.Tables.{config_in}
pub use Rattle.config_tables.specs.declared.rows.ClassRow.{ClassRow}
pub use Rattle.config_tables.specs.declared.rows.EventRow.{EventRow}
pub use Rattle.config_tables.specs.declared.rows.TopRow.{TopRow}
