-- The types that the definitions of this crate are about.
pub use Rattle.ids_types.specs.declared.entry.Carried.{Carried}
pub use Rattle.ids_types.specs.declared.entry.Carried.TheVariants.{Absent, Kept, Missing}
pub use Rattle.ids_types.specs.declared.entry.Act.{Act}
pub use Rattle.ids_types.specs.declared.entry.Act.TheVariants.{Report, State, SetMode}
pub use Rattle.ids_types.specs.declared.entry.Entry.{Entry}
pub use Rattle.ids_types.specs.declared.entry.TurnHead.{TurnHead}
pub use Rattle.ids_types.specs.declared.names.Stamp.{Stamp}
pub use Rattle.ids_types.specs.declared.rows.EntryRow.{EntryRow}
pub use Rattle.ids_types.specs.declared.rows.RowKind.{RowKind}
pub use Rattle.ids_types.specs.declared.rows.RowKind.TheVariants.{Bare, Holding, Lacking, StateTo, ModeTo}
pub use Rattle.ids_types.specs.declared.rows.TurnRow.{TurnRow}
