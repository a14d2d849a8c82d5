pub mod Below
pub mod Contexts
pub mod DecodedText
pub mod Fields
pub mod Hexadecimal
pub mod JournalFaults
pub mod JournalForm
pub mod JournalReading
pub mod JournalText
pub mod Lines
pub mod Maybe
pub mod MemoryText
pub mod Numbers
pub mod TraceFaults
pub mod TraceForm
pub mod TraceReading
pub mod TraceText
pub mod Words
pub use Rattle.text_spec.specs.Below.{Absent, Act, All, AllByRecursion, Asked, Bool, Carried, Entry, Err, EventIndex, IfErr, IfOk, IfSome, IsBytes, IsTrue, KeepUpFrom, Kept, List, Loss, Missing, Mode, None, Ok, OnErr, OnOk, Option, Parts, Report, Result, Round, SetMode, Some, Stamp, State, Turn, TurnHead, [], all_modes, asks, begun, byte_at, bytes_eq, bytes_high_first, changes, codes, decimal, decode_of, digits_value, drop, encode_lower, entries_of, extended, false, find, flat_map, from_be_bytes, is_ascii_digit, is_in_range, is_sensor, join_with_byte, last_tick, length, lines_at, list_all, list_any, lower_digits, map, min, mode_name, mode_named, nat_le, nat_lt, not, option_and_then, option_copied, option_map, replicate, reports, round_ticks, set, sets, slice_index, slice_set, slice_split, suc, take, to_be_bytes, true, unwrap_or, vec_capacity, vec_len, w64, with_entry, zero, ℕ, ⊤, ◌>>◌}
pub use Rattle.text_spec.specs.Contexts.{colon, point, mark, kept_fields, context_word, IsContext, IsExactContext, kept_places, IsContextWord, kept_in, numbers_in, claims_in, context_in, a_context}
pub use Rattle.text_spec.specs.DecodedText.{form_letter, shown_context, shown_signature, layout_word, message_line, decoded_text}
pub use Rattle.text_spec.specs.Fields.{Field, IsNumberOf, simple, the, a_number, a_stamp, a_mode, hex_bytes, bytes_word, bytes_in, any_bytes, Filled, put, words_of_fields, line_with, ended_line, AreHeld, AreExact, AreWritten, Makes, first_as, read_by, Form, behind, told_in, told_in_one, HasForm}
pub use Rattle.text_spec.specs.Hexadecimal.{stamp_text, stamp_of_bytes, stamp_in, is_lower_digit, hex_in, IsWritten, some_bytes, some_hex, bytes_of}
pub use Rattle.text_spec.specs.JournalFaults.{is_claim, is_count_lost, is_call, is_context, is_act, is_tick, is_head, has_event, is_in_ranges, Past, pair_of, is_pair, has_pair, start, next, head_fault, entry_fault, loss_fault, fault_of}
pub use Rattle.text_spec.specs.JournalForm.{index, entry_of, turn_form, report_form, state_form, setting_form, loss_form, line_forms, told_by}
pub use Rattle.text_spec.specs.JournalReading.{journal_grammar, IsHeld, Fits, IsJournal, Follows, journal_in}
pub use Rattle.text_spec.specs.JournalText.{Told, begins, Line, enters, loses, act_fields, fields_of, line_for, turn_told, lines_told, journal_text}
pub use Rattle.text_spec.specs.Lines.{RefusedFor, Took, Fails, Reads, fault_at, fault_behind, Grammar, BadLine, at_line, AreFaultless, past_with, after_line, at_end, after_pieces, past_in}
pub use Rattle.text_spec.specs.Maybe.{ended, first_of, or_else, ◌>>=◌}
pub use Rattle.text_spec.specs.MemoryText.{row_line, memory_text}
pub use Rattle.text_spec.specs.Numbers.{AreDigits, zero_digit, is_number, number_in, greatest_told, capped}
pub use Rattle.text_spec.specs.TraceFaults.{act_asked, is_allowed, keep_up, PastRounds, no_rounds, last_from, begun_round, asked_more, ended_at, with_last, next_rounds, opening_fault, asked_fault, closing_fault, trace_fault_of}
pub use Rattle.text_spec.specs.TraceForm.{asked_report_form, asked_state_form, asked_mode_form, round_end_form, trace_forms, opening_in, trace_told_by}
pub use Rattle.text_spec.specs.TraceReading.{trace_grammar, trace_in, MayAsk, IsAllowedRound, AreTicks, AreRounds}
pub use Rattle.text_spec.specs.TraceText.{calls, TraceLine, opens, closes, number_fields, asked_fields, trace_fields, trace_line_for, callers_told, round_told, rounds_told, trace_text}
pub use Rattle.text_spec.specs.Words.{Appends, Written, pieces_left, space, line_feed, absent, pieces_of, differs, words_of, line_of, text_of}
