use Rattle.text_spec.proofs.Names.{◌<◌, length, Ok, Err, arith, rules, ◌∙◌, line_feed, pieces_of}
use Rattle.text_spec.proofs.LinesLaws.{ends, goes_on, refuses}
use Rattle.text_spec.proofs.lines.read_lines.Goals as goal

pub returns-in-Ok-clause-exact : goal.returns-in-Ok-clause-exact
returns-in-Ok-clause-exact g c =
    ends _ c.lines.number (g.R.LineReader.past c.lines.reader) c.cut.result.0.now (pieces_of line_feed c.lines.rest.now) _ (search rules) c.lines.invariant.tells (Ok tt) (search rules)

pub returns-in-Err-clause-exact : goal.returns-in-Err-clause-exact
returns-in-Err-clause-exact g c =
    rw c.at_line.ensures (ends _ c.lines.number (g.R.LineReader.past c.lines.reader) c.cut.result.0.now (pieces_of line_feed c.lines.rest.now) _ (search rules) c.lines.invariant.tells (Err c.in-Err.fault) (search rules))

pub returns-in-Err-line-clause-exact : goal.returns-in-Err-line-clause-exact
returns-in-Err-line-clause-exact g c =
    rw c.at_line-in-Err-line.ensures
    (refuses _ c.lines.number (g.R.LineReader.past c.lines.reader) c.cut.result.0.now c.in-Some.behind.now (pieces_of line_feed c.lines.rest.now) _ (search rules) c.lines.invariant.tells c.in-Err-line.fault c.in-Err-line.ensures.took)

pub lines-preserved : goal.lines-preserved
lines-preserved g c =
    let shorter : length c.in-Some.behind.now < length c.lines.rest.now = search rules in
    record {
      tells = rw c.line.ensures.same (goes_on _ c.lines.number (g.R.LineReader.past c.lines.reader) c.cut.result.0.now c.in-Some.behind.now (pieces_of line_feed c.lines.rest.now) _ (search rules) c.lines.invariant.tells (g.R.LineReader.past c.line.new.self) c.in-Ok-line.ensures.took);
      same = c.line.ensures.same ∙ c.lines.invariant.same;
      counted = omega (arith, shorter, c.lines.invariant.counted);
    }
