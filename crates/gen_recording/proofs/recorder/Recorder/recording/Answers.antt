use Rattle.gen_recording.proofs.Names.{◌≡◌, ◌*◌, ◌∙◌, ap₂, length, arith, rules, ranges, Parts, Traced, history_of, gen_line, count_of, rows_of, digest_of, messages_of}
use Rattle.gen_recording.specs.Generated.{config_for, journal_for, line_for, trace_for}
use Rattle.gen_recording.proofs.FitLemmas.{rounds_fit}
use Rattle.gen_recording.proofs.recorder.Recorder.recording.Goals as goal

pub take_all-requires-clause-can : goal.take_all-requires-clause-can
take_all-requires-clause-can c =
    let made = c.requires.made in
    rw (made.config, made.trace) (rounds_fit c.args.options.now (ranges c.args.options.now made.range))

pub returns : goal.returns
unfolding config_for trace_for journal_for line_for
returns c =
    let made = c.requires.made in
    let o = c.args.options.now in
    let at = c.in_ok-take_all.ensures in
    let kept : c.replace.result.items ≡ c.take_all.new.self.journal.items = search rules in
    let many : 4 * o.callers * o.rounds ≡ 4 * (o.callers * o.rounds) = omega arith in
    record {
      config = rw made.config at c.in_ok-print.ensures.text;
      trace = rw made.trace at c.in_ok-print-2.ensures.text;
      journal = kept ∙ (rw (made.config, made.trace) at at.journal);
      line = rw (← many) (c.in_ok-line.ensures _ _ at
          ∙ ap₂ (λ (p : Parts) (t : Traced). let turns = history_of p t.rounds in gen_line (4 * o.callers * o.rounds) (count_of p turns) (length (rows_of p turns)) (digest_of (messages_of p turns))) made.config made.trace);
    }
