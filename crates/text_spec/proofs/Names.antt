-- The names that the proofs of this crate share, from where they are defined.
pub use Rattle.std.proofs.Common.{Decides, Bool, List, [], add-one, ap, append_assoc, arith, false, get_or, inl, inr, length, length-append, length-set, map, not, refl, set, slice_index, subst, suc, sym, take, true, zero, ℕ, ◌∙◌, ◌*◌, ◌||◌, min, rules, drop, vec_len, vec_capacity, slice_range, below_more, if◌then◌else◌, ◌%◌, ◌++◌, ◌+◌, ◌-◌, ◌/◌, ◌<◌, ◌==◌, ◌^◌, ◌∷◌, ◌≡◌, ◌≤◌}
pub use Rattle.std.proofs.lemmas.Bool.{agree_below_at, and_from, and_parts, both_ways, cases_Bool, cond-true, eq-eqb, eqb-true, false_from_ne_true, le-leb, ne_eqb, or_cases, leb-true, cases_lt}
pub use Rattle.std.proofs.lemmas.List.{append-nil, flat_map_more, length-take-le, map-append, nil_from_length, take_all, take_more, length-take, get_or-take, length-map, get_or_at, length-replicate, set_at, take_rest, take_more_set}
pub use Rattle.std.proofs.lemmas.List.Elements.{recursion_from_All, All-from_get_or, All-from_recursion, All-weaker, All-replicate, All-append, All-set}
pub use Rattle.std.proofs.lemmas.List.Folds.{list_all-append, list_any-append, list_all_at, list_all_more, drop_split}
pub use Rattle.std.proofs.lemmas.List.Splits.{join_with_byte-slice_split, length-slice_split, slice_split_at, slice_split_none, slice_split_first}
pub use Rattle.std.proofs.lemmas.List.Sums.{AllPass-from_list_all, fails_before_first, passes_at_first, position_or_len_is, list_all-from_AllPass}
pub use Rattle.std.proofs.lemmas.Option.{cond_some, none-some, option_and_then_some, same_Some}
pub use Rattle.std.proofs.lemmas.Slice.Eq.{bytes_eq-Decides}
pub use Rattle.std.specs.List.{position_or_len}
pub use Rattle.hex.proofs.HexLemmas.{length-encode_with, decode_of-encode_lower, decode_of-odd}
pub use Rattle.ids_types.specs.declared.mode.Mode.TheVariants.{Off}
pub use Rattle.text_spec.specs.{differs, AreDigits, asked_report_form, asked_state_form, asked_mode_form, round_end_form, trace_forms, opening_in, trace_told_by, ended, asks, ◌>>◌, Absent, Act, All, AllByRecursion, AreExact, AreFaultless, AreHeld, AreRounds, AreTicks, AreWritten, Asked, BadLine, Carried, Entry, Err, Fails, Field, Filled, Follows, Form, Grammar, HasForm, IfSome, IsAllowedRound, IsBytes, IsContext, IsContextWord, IsExactContext, IsHeld, IsJournal, IsWritten, KeepUpFrom, Kept, Line, Loss, Makes, MayAsk, Missing, Mode, None, Ok, Option, Parts, Past, PastRounds, RefusedFor, Report, Result, Round, SetMode, Some, Stamp, State, Told, TraceLine, Turn, a_context, a_mode, a_number, a_stamp, absent, act_fields, after_line, after_pieces, all_modes, any_bytes, asked_fault, asked_fields, asked_more, at_end, at_line, begins, begun, begun_round, bytes_eq, bytes_high_first, bytes_in, bytes_of, bytes_word, callers_told, calls, capped, changes, claims_in, closes, codes, colon, context_in, context_word, decimal, digits_value, encode_lower, ended_at, enters, entries_of, entry_fault, entry_of, extended, fault_at, fault_behind, fault_of, fields_of, find, first_as, flat_map, from_be_bytes, greatest_told, has_event, has_pair, hex_bytes, hex_in, is_act, is_ascii_digit, is_call, is_claim, is_context, is_in_range, is_in_ranges, is_lower_digit, is_number, is_pair, is_sensor, is_tick, join_with_byte, journal_grammar, journal_in, keep_up, kept_fields, kept_in, kept_places, last_from, last_tick, layout_word, line_feed, line_for, line_forms, line_of, line_with, lines_at, lines_told, list_all, list_any, loses, loss_form, lower_digits, mark, message_line, mode_name, mode_named, nat_le, nat_lt, next, next_rounds, no_rounds, number_fields, number_in, numbers_in, opens, option_map, or_else, pair_of, past_in, past_with, pieces_of, point, put, read_by, replicate, report_form, reports, round_ticks, round_told, rounds_told, sets, setting_form, shown_context, shown_signature, simple, slice_split, some_hex, space, stamp_in, stamp_of_bytes, stamp_text, start, state_form, text_of, the, to_be_bytes, told_by, told_in, told_in_one, trace_fault_of, trace_fields, trace_grammar, trace_in, trace_text, turn_form, turn_told, w64, with_entry, with_last, words_of, words_of_fields, ⊤, ◌>>=◌}
pub use Rattle.hex.proofs.Pairs.{encode_with-drop, encode_step}
unfoldable pub use Rattle.hex.specs.Hex.{decode_pairs, encode_with}
pub use Rattle.std.proofs.lemmas.Bool.Decides.{nat_tests, Decides-and}
pub use Rattle.std.proofs.lemmas.Grind.{common_steps}
