use Rattle.cmd_steps.proofs.Names.{EndsAs, IsTrue, Sources, [], arith, gives, plain_end, read_over, reading_ends, reading_of, refl, report, report_files_of, reports, sources_in, stops_early, subst, sym, ◌∙◌}
use Rattle.cmd_steps.proofs.AnsweredLemmas.{left_finished}
use Rattle.cmd_messages.proofs.CopyLemmas.{come}
use Rattle.cmd_messages.proofs.reporting.report_files.Given.{Over}
use Rattle.cmd_messages.proofs.reporting.report_files.Goals.{After-write_work}
use Rattle.cmd_messages.proofs.reporting.report_files.Goals as goal

pub returns-in_err-sources-clause-ends : goal.returns-in_err-sources-clause-ends
unfolding reading_of
returns-in_err-sources-clause-ends g c =
    let names = report_files_of c.args.names in
    left_finished (report names) _ c.in_err-sources.field-0.0 _ _ c.from_residual.ensures.1
    (reading_ends (report names) _ _ _
    (stops_early (sources_in [] names.sources) (λ (sources : Sources). gives (reports names.target sources)) _ _ _ c.in_err-sources.ensures.reads))

-- the file was written, or not
ended : (g : Over) (c : After-write_work g) → EndsAs (report (report_files_of c.args.names)) (plain_end c.write_work.result)
    (g.H.Shelf.shows c.args.shelf.now) (g.H.Shelf.shows c.write_work.new.shelf)
unfolding reading_of
ended g c =
    let names = report_files_of c.args.names in
    c.write_work.ensures.ends (report names) (reports names.target c.in_ok-sources.sources.items) (g.H.Shelf.shows c.args.shelf.now)
    (come _ _ _ _ (λ (own : Sources). reports names.target own) refl _ c.in_ok-sources.ensures.reads)
    (grind (arith, c.in_ok-forwarded.ensures, c.deref.ensures.value, c.deref-2.ensures.value, c.deref-3.ensures.value, c.in_ok-line.ensures))

pub returns-in_err-line-2-clause-ends : goal.returns-in_err-line-2-clause-ends
returns-in_err-line-2-clause-ends g c =
    left_finished (report (report_files_of c.args.names)) _ c.in_err-line-2.field-0.0 _ _ c.from_residual-in_err-line-2.ensures.1
    (rw c.in_err-line-2.was at (ended g (goal.at.returns-in_err-line-2-clause-ends g c).After-write_work))

pub returns-clause-ends : goal.returns-clause-ends
returns-clause-ends g c = rw c.in_ok-line-2.was at (ended g (goal.at.returns-clause-ends g c).After-write_work)

pub returns-clause-reported : goal.returns-clause-reported
returns-clause-reported g c told =
    let read = c.in_ok-sources.ensures.reads in
    record {
      sources = c.in_ok-sources.sources.items;
      asked = read_over _ _ _ _ read told;
      out = c.in_ok-forwarded.forwarded.out.items;
      forwarded = rw c.deref.ensures.value at c.in_ok-forwarded.ensures;
      written = rw c.deref-3.ensures.value at ((c.in_ok-line-2.ensures.written (subst IsTrue (sym read.tells) told)).0);
      text = c.in_ok-line-2.ensures.line ∙ (rw c.deref-2.ensures.value at c.in_ok-line.ensures);
    }
