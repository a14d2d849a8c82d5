pub mod ConfigView
pub mod EventView
pub mod Parts
pub mod PartsView
pub mod Steps
pub mod Valid
pub mod Values
pub use Rattle.ids_config.specs.Parts.{class_of, plain_event, event_at, is_given, is_sensor, index_of, internal_of}
pub use Rattle.ids_config.specs.PartsView.{parts_of}
pub use Rattle.ids_config.specs.Steps.{◌>>◌, asks, in_range, at, each, capped}
pub use Rattle.ids_config.specs.Valid.{IsWithin, IsInterval, IsWindow, AreClasses, IsEvent, AreInternal, IsValid}
pub use Rattle.ids_config.specs.Values.{interval_value, window_value, limit_value, numbers_value, class_value, each_class, classes_value, rises, block_value, aggregate_value, most_version, event_value, each_event, events_value, is_within, differ, internal_value, parts_value, checked}
