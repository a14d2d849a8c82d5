-- The names of other crates and of this crate's specs that more than one of its proofs stands on.
pub use Rattle.std.proofs.Common.{◌≡◌, ℕ, zero, suc, ◌+◌, ◌≤◌, ◌<◌, List, [], ◌∷◌, ◌++◌, length, map, Ok, IsTrue, refl, arith, length-append, ◌==◌, Bool, true, false, filter, get_or, set, sym, ap, ◌∙◌, inl, inr, ◌-◌, ◌*◌, ◌%◌, ◌^◌, take, drop, ap₂, add-one, subst, reverse, append-nil, append_assoc, rules, cond, count_by, nat_lt, ◌&&◌, if◌then◌else◌, replicate}
pub use Rattle.std.proofs.lemmas.Grind.{common_steps, elements, reverse_onto}
pub use Rattle.std.proofs.lemmas.List.{get_or_past, length-map, reverse-reverse, map-append, reverse-append, take_more, take_all, set-get_or, get_or_at, length_push, map-id, set_at, drop_more, map_more}
pub use Rattle.std.proofs.lemmas.List.Elements.{All-push, All-nil, All-map, recursion_from_All}
pub use Rattle.std.proofs.lemmas.List.FromFn.{length-map-range_with_len, length-range_with_len, get_or-map-range_with_len, map-range_with_len_more, fill_by_all, get_or-range_with_len}
pub use Rattle.std.proofs.lemmas.Result.{on_ok_weaker}
pub use Rattle.std.specs.List.{AllByRecursion, range_with_len, slice_range, flat_map}
pub use Rattle.filter_chain.specs.{count_of, messages_of, rows_of, FitsAct, turn_by, FitsTurn}
pub use Rattle.chain_spec.specs.Chain.{handed_on}
pub use Rattle.event_chain.specs.Standing.{Stands}
pub use Rattle.gen_options.proofs.RangeLemmas.{ranges}
pub use Rattle.gen_options.specs.Ranges.{is_in_range, IsInRange}
pub use Rattle.gen_options.specs.declared.options.Options.{Options}
pub use Rattle.ids_config.specs.Parts.{Parts, class_of}
pub use Rattle.ids_config.specs.Values.{each_event, events_value, internal_value}
pub use Rattle.ids_types.specs.Plain.{plain_entry}
pub use Rattle.ids_types.specs.declared.class_spec.ClassSpec.{ClassSpec}
pub use Rattle.ids_types.specs.declared.parcel.Plain.{Plain}
pub use Rattle.history_spec.specs.{KeepUpFrom, Asked, reports, changes, sets, Round, last_tick, lines_at, round_ticks}
pub use Rattle.history_spec.specs.Names.{Entry}
pub use Rattle.text_spec.specs.TraceFaults.{begun_round, with_last}
pub use Rattle.trace_text.specs.{line_asked, Traced, round_at}
pub use Rattle.gen_recording.specs.{AreCalls, HasClassFor, asking, with_lines, draw, next_number, number_after, digest_of, gen_line, changes_by, generated_round, lines_by, rounds_of, tick_after, ticks_beside, draws_before, Call, call_by, calls_from, history_of, Plan, act_of, calls_of, entries_of, idle, plans_in, entry_of, turn_of, turns_of, CanAsk, IsAt, held, turns_made, context_of, report_at, size_of}
pub use Rattle.gen_recording.specs.GeneratedConfig.{all_events, config_of, internal_event, sensor_event}
pub use Rattle.gen_recording.specs.declared.recorder.Recorder.{Recorder}
pub use Rattle.text_spec.proofs.TraceFacts.{by_last, last_tick-push, with_last-push, all_append, all_at, keep_append, last_of_all, keep_split, last_from-push}
pub use Rattle.std.proofs.lemmas.Bool.Decides.{nat_tests}
