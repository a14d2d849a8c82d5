use Rattle.gen_recording.proofs.Names.{◌≡◌, ◌+◌, ◌*◌, ◌++◌, ◌∷◌, [], map, sym, ap, ◌∙◌, arith, append_assoc, range_with_len, map-range_with_len_more, line_asked, with_lines, number_after, changes_by, tick_after, report_at}
use Rattle.gen_recording.proofs.DrawLemmas.{lines_more}
use Rattle.gen_recording.proofs.drawing.draw_lines.Goals as goal

pub loop-preserved : goal.loop-preserved
loop-preserved c =
    let o = c.args.options.now in
    let caller = c.args.caller in
    let tick = tick_after c.args.round in
    let first = 4 * (c.args.round * o.callers + caller) in
    let n = first + c.loop.counter in
    let changes = changes_by c.args.round caller in
    let reports = map (report_at o tick) (range_with_len first c.loop.counter) in
    let asked : line_asked c.draw_report-line.result ≡ report_at o tick n = c.draw_report-line.ensures.line o.start (4 * n) c.loop.invariant.number in
    record {
      trace = c.in_ok-push_line.ensures.ok
          ∙ ap (λ x. with_lines caller (x ∷ []) c.loop.trace) asked
          ∙ ap (with_lines caller (report_at o tick n ∷ [])) c.loop.invariant.trace
          ∙ lines_more caller (changes ++ reports) (report_at o tick n ∷ []) c.args.trace.now c.requires.some
          ∙ ap (λ ls. with_lines caller ls c.args.trace.now) (append_assoc changes reports (report_at o tick n ∷ [])
          ∙ ap (λ rs. changes ++ rs) (sym (map-range_with_len_more (report_at o tick) first c.loop.counter n (omega arith))));
      number = c.draw_report-line.ensures.number o.start (4 * n) c.loop.invariant.number ∙ ap (number_after o.start) (omega arith);
    }
