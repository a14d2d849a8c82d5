-- The names of other crates and of this crate's specs that more than one of its proofs stands on.
pub use Rattle.std.proofs.Common.{ℕ, ◌+◌, ◌≤◌, not, Bool, false, List, [], ◌∷◌, length, sum_by, map, None, option_to_list, if◌then◌else◌, arith, ◌≡◌, zero, suc, ◌*◌, ◌/◌, ◌%◌, ◌==◌, ◌++◌, flat_map, reverse, Option, Some, length-append, refl, filter, eq-eqb, ◌&&◌}
pub use Rattle.std.specs.Fmt.{digits_onto, digit_glyph}
pub use Rattle.chain_spec.specs.{sent, messages, sampled, Item, item_in, kept_parcel, spelled, message_of, Moment, closes, comes, head_moment, act_moment, turn_moments, moments, with_all}
pub use Rattle.ids_config.specs.Parts.{Parts, event_at, plain_event}
pub use Rattle.ids_frame.specs.Spelling.{spelling}
pub use Rattle.ids_types.specs.declared.entry.Act.TheVariants.{Report}
pub use Rattle.ids_types.specs.declared.entry.Carried.TheVariants.{Absent, Kept}
pub use Rattle.ids_types.specs.declared.entry.Entry.{Entry}
pub use Rattle.ids_types.specs.declared.names.Stamp.{Stamp}
pub use Rattle.text_spec.specs.JournalText.{Told, Line, begins, enters, line_for, turn_told, journal_text}
pub use Rattle.law_agreement.specs.Weights.{weight, moment_weight, stamp_weight, context_weight}
