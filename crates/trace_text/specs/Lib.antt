pub mod Forms
pub mod Lines
pub mod Reading
pub mod Small
pub mod TraceView
pub use Rattle.trace_text.specs.Lines.{act_asked, line_asked, bytes_asked, row_asked, callers_asked, IsRowWithin, AreWithin, line_at, lines_text, caller_text, ticks_text}
pub use Rattle.trace_text.specs.TraceView.{Traced, no_rounds_of, with_round, with_line, round_at, Laid, at_start, end_at, lines_between, round_between, rounds_laid, laid_of, IsEnd, Lie}
