use Rattle.gen_recording.proofs.Names.{◌≡◌, ◌+◌, ◌*◌, ◌++◌, map, range_with_len, with_lines, number_after, changes_by, tick_after, report_at}
use Rattle.gen_recording.proofs.drawing.draw_lines.Given as goal

-- the first reports were drawn
abbrev pub invariant-loop : goal.invariant-loop
invariant-loop l = record {
  trace : l.trace ≡ with_lines l.caller (changes_by l.round l.caller
      ++ map (report_at l.options (tick_after l.round)) (range_with_len (4 * (l.round * l.options.callers + l.caller)) l.counter)) l.fn.trace;
  number : l.draws.number ≡ number_after l.options.start (4 * (4 * (l.round * l.options.callers + l.caller) + l.counter));
}
