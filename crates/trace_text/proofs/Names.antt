-- The names of other crates and of this crate's specs that more than one of its proofs stands on.
pub use Rattle.std.proofs.Common.{◌≡◌, ℕ, zero, suc, ◌+◌, ◌-◌, ◌<◌, ◌≤◌, ◌^◌, List, [], ◌∷◌, ◌++◌, length, take, drop, set, get_or, refl, sym, ap, subst, ◌∙◌, inl, inr, arith, append_assoc, length-append, length-set, get_or-set_same, get_or-set_other, drop-cons, map, false, rules, true, ap₂, ◌⊎◌}
pub use Rattle.std.proofs.lemmas.List.{append-nil, drop_at, get_or_append_left, get_or_push, length-replicate, take-append-drop, take-append-le, take_all, take_at, take_more, map-append, get_or-map, length-map, map-set, set-get_or, get_or_read, get_or_past}
pub use Rattle.std.specs.List.{flat_map, AllByRecursion, list_all, list_any}
pub use Rattle.std.specs.Prelude.{replicate, slice_index, slice_range, decimal, Ok, Some, None, codes, option_map, Vec, ◌==◌, slice_index_or}
pub use Rattle.ids_config.specs.Parts.{Parts, class_of}
pub use Rattle.history_spec.specs.{KeepUpFrom, RiseFrom, StandsIn, LossesFrom, times, lines_at, lines_of, last_tick, Round, round_ticks, ticks_of, Asked, reports, changes, sets, calls_of, lost_calls_of, IsMerge, CarriesAsAsked, IsAsAsked}
pub use Rattle.text_spec.proofs.JournalFacts.{flat_map-push}
pub use Rattle.text_spec.proofs.LastLemmas.{last_bytes}
pub use Rattle.text_spec.proofs.TraceFacts.{all_append, all_at, all_split, by_last, last_tick-push, with_last-push, IsSmall, opening_keeps_up, opening_small, ticks_ended, ticks_asked, ticks_pushed, keep_append, last_of_all, last_small, all_set}
pub use Rattle.text_spec.proofs.TraceLaws.{trace_again}
pub use Rattle.text_spec.proofs.WordsLemmas.{text_of-map}
pub use Rattle.text_spec.specs.{numbers_in, ended_line, words_of_fields, told_in_one, is_tick, start, is_act, is_call, is_claim, is_context, is_head, has_event, is_pair, pair_of, Past, fault_of, next, asked_more, begun_round, ended_at, with_last, last_from, keep_up, opening_in, trace_forms, trace_told_by, AreTicks, IsAllowedRound, MayAsk, trace_in, AreRounds, line_of, space, Fits, IsHeld, journal_grammar, loses, act_fields, Line, begins, enters, turn_told, IsContext, AreHeld, capped, AreFaultless}
pub use Rattle.text_spec.specs.TraceText.{Asked, Round, reports, changes, sets, TraceLine, asked_fields, calls, callers_told, closes, number_fields, opens, round_told, rounds_told, trace_fields, trace_line_for, trace_text}
pub use Rattle.trace_text.specs.{callers_asked, bytes_asked, row_asked, line_asked, AreWithin, IsRowWithin, caller_text, lines_text, ticks_text, IsEnd, Laid, Lie, Traced, at_start, end_at, lines_between, round_at, round_between, rounds_laid, laid_of, with_line, with_round}
pub use Rattle.trace_text.specs.declared.trace.RoundEnd.{RoundEnd}
pub use Rattle.std.proofs.lemmas.Bool.{eq-eqb, eqb-true, false_from_ne_true, le-leb, lt-ltb, cases_lt}
pub use Rattle.ids_config.specs.Valid.{IsValid, AreClasses}
pub use Rattle.ids_types.specs.Turns.{Turn, entries_of, begun}
pub use Rattle.history_spec.proofs.PlaceLemmas.{stands_kept, stands_left, stands_right}
pub use Rattle.history_spec.specs.Names.{Loss, ClassSpec, Carried, Absent, Kept, Missing, Act, Report, State, SetMode, Entry}
pub use Rattle.trace_text.specs.Small.{AreSmall, IsSmallHead}
pub use Rattle.ids_types.proofs.HistoryLemmas.{entries_of-with_entry, range_of_front, length_with_entry}
pub use Rattle.std.proofs.lemmas.Grind.{common_steps}
pub use Rattle.std.proofs.lemmas.List.Elements.{All-from_recursion, All-weaker, recursion_from_All}
