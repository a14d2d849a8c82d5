pub mod Configured
pub mod Members
pub mod Printed
pub mod Shape
pub mod Tables
pub use Rattle.config_json.specs.Configured.{config_in, tree_of, config_of, configuration, Tells}
pub use Rattle.config_json.specs.Members.{whole_at, whole_or, truth_or, text_at, list_at, if_object, object_at, form_at, form_of, last_named, window_in, aggregate_in, class_in, state_in, internal_at, profile_in}
unfoldable pub use Rattle.config_json.specs.Members.{event_in, parts_in}
pub use Rattle.config_json.specs.Printed.{whole, optional, list_tree, context_name, with_members, class_tree, window_tree, aggregate_tree, event_members, filter_members, internal_tree, number_members, inner_members, config_text}
unfoldable pub use Rattle.config_json.specs.Printed.{event_tree, config_tree}
pub use Rattle.config_json.specs.Shape.{row_of, is_among, members_shape, names_of, is_named, is_there, is_of_kind, object_shape, part_shape, is_known, class_shape, aggregate_shape, event_shape_at}
unfoldable pub use Rattle.config_json.specs.Shape.{event_shape, config_shape}
pub use Rattle.config_json.specs.Tables.{form_numbered, top_table, window_table, event_table, internal_table}
