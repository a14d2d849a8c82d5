pub mod Generated
pub mod GeneratedConfig
pub mod GeneratedTrace
pub mod Quiet
pub mod Recording
unfoldable pub use Rattle.gen_recording.specs.GeneratedTrace.{number_after, ramp}
pub use Rattle.gen_recording.specs.Generated.{turns_for, config_for, trace_for, journal_for, digest_of, gen_line, line_for, IsMade, IsGenerated}
pub use Rattle.gen_recording.specs.GeneratedTrace.{next_number, drawn_below, draw, size_of, context_of, stamp_of, report_of, report_at, tick_after, ticks_beside, changes_by, lines_by, generated_round, rounds_of, draws_before, asking, with_lines}
pub use Rattle.gen_recording.specs.Quiet.{Call, is_by, keeps_in, calls_before, claims_before, carried, act_of, entry_of, entries_of, Plan, calls_of, turn_of, turns_of, call_by, calls_from, idle, plans_in, plans_of, history_of}
pub use Rattle.gen_recording.specs.Recording.{AreCalls, AreClaims, AreCounts, HasClassFor, HasClass, held, turns_made, IsAt, IsRecording, CanAsk, CanAskAll, CanTake, CanRecord, IsBetween}
