-- The names of other crates and of this crate's specs that more than one of its proofs stands on.
pub use Rattle.std.proofs.Common.{filter, true, Option, Some, ◌++◌, option_to_list, option_map, nat_le, ◌≡◌, ◌<◌, List, [], map, refl, arith, rules, ℕ, ◌+◌, ◌%◌, ◌==◌, ◌&&◌, not, Bool, ◌∷◌, None, length, if◌then◌else◌, sym, ap, subst, ◌∙◌, take}
pub use Rattle.std.specs.List.{All}
pub use Rattle.std.proofs.Math.Nat.{zero-mod, suc-mod}
pub use Rattle.ids_config.specs.Parts.{Event, Parts, event_at, plain_event}
pub use Rattle.ids_config.specs.Valid.{IsEvent, IsValid}
pub use Rattle.filter_gate.specs.Gate.{Row, fresh_row, Gate, row_at, verdict_on, after_asking, gate_asked}
pub use Rattle.filter_gate.specs.Stands.{Stands, row_after}
pub use Rattle.std.proofs.lemmas.Bool.Decides.{nat_tests}
