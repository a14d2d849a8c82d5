-- The names of other crates and of this crate's specs that more than one of its proofs stands on.
pub use Rattle.std.proofs.Common.{ap, subst, ◌≡◌, ℕ, suc, ◌+◌, ◌-◌, ◌<◌, List, length, take, sym, ◌∙◌, arith, [], ◌∷◌, ◌++◌, map, refl, append_assoc, ◌≤◌, length-set, ◌^◌, ◌||◌, get_or, rules, true, ◌↔◌, false, decimal, Ok, Err, Result, Vec, drop, vec_capacity, replicate, ◌*◌, sum_by, Option, Some, None}
pub use Rattle.std.proofs.lemmas.List.{map-append, append-nil, length-append, length-take-le, take-append-drop, take_more}
pub use Rattle.std.specs.BTreeSet.{contains}
pub use Rattle.std.specs.List.{flat_map, join_with_byte, list_any, AllByRecursion, list_all}
pub use Rattle.std.specs.Ordering.{nat_cmp}
pub use Rattle.text_spec.proofs.JournalFacts.{flat_map-push, sensor_is_there}
pub use Rattle.text_spec.proofs.LastLemmas.{last_context, last_hex}
pub use Rattle.text_spec.proofs.NumberLists.{with_front, front_more, numbers_more}
pub use Rattle.text_spec.proofs.WordsLemmas.{text_of-map, one_more}
pub use Rattle.text_spec.specs.{numbers_in, point, ended_line, is_pair, has_pair, Appends, Past, start, next, fault_of, pair_of, is_in_ranges, Fits, Follows, IsHeld, journal_grammar, begins, lines_told, AreFaultless, act_fields, context_word, has_event, is_act, is_call, is_claim, is_context, stamp_text, journal_text, report_form}
pub use Rattle.text_spec.specs.JournalText.{Entry, Loss, Line, enters, loses, line_for, fields_of, turn_told, Told, Carried, Absent, Kept, Missing, Act, Report, State, SetMode}
pub use Rattle.journal.specs.Printing.{lines_text, turn_text, turns_text, losses_text, pointed, most_bytes, most_for, most_of, most_with}
pub use Rattle.journal.specs.Answers.{told}
pub use Rattle.std.proofs.lemmas.Bool.Decides.{nat_tests}
pub use Rattle.std.proofs.lemmas.Grind.{common_steps, flat_map-append}
pub use Rattle.ids_config.specs.Parts.{Parts}
pub use Rattle.ids_types.specs.{entries_of, entry_by, Turn, turn_at, begun}
pub use Rattle.std.proofs.lemmas.List.Sums.{sum_by-cons, sum_by_push, sum_by-take-le}
