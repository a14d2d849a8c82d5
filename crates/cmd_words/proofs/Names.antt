-- The names of other crates and of this crate's specs that more than one of its proofs stands on.
pub use Rattle.cmd_words.specs.Command.{are_names, Command, are_read_by_clap, command_of, disk_of, gen_for, gen_of, replay_of, report_of, number_between}
pub use Rattle.std.proofs.Common.{Bool, List, [], ap, arith, false, length, map, refl, string_bytes, sym, ℕ, ◌∙◌, ◌∷◌, ◌≡◌, ◌≤◌, IsTrue, None, Option, Some, ◌++◌, ◌^◌}
pub use Rattle.std.specs.List.{list_any, list_all, join_with_byte}
pub use Rattle.std.specs.Prelude.{◌&&◌, ◌||◌, ◌<◌, ◌==◌, nat_le, option_map, if◌then◌else◌}
