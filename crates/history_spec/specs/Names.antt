-- The types of ids_types that the definitions of this crate are about.
pub use Rattle.ids_types.specs.declared.class_spec.ClassSpec.{ClassSpec}
pub use Rattle.ids_types.specs.declared.entry.Carried.{Carried}
pub use Rattle.ids_types.specs.declared.entry.Carried.TheVariants.{Absent, Kept, Missing}
pub use Rattle.ids_types.specs.declared.entry.Act.{Act}
pub use Rattle.ids_types.specs.declared.entry.Act.TheVariants.{Report, State, SetMode}
pub use Rattle.ids_types.specs.declared.entry.Entry.{Entry}
pub use Rattle.ids_types.specs.declared.loss.Loss.{Loss}
pub use Rattle.ids_types.specs.declared.mode.Mode.{Mode}
pub use Rattle.ids_types.specs.declared.names.EventIndex.{EventIndex}
pub use Rattle.ids_types.specs.declared.names.Stamp.{Stamp}
