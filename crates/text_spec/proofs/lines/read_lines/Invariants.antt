use Rattle.text_spec.proofs.Names.{◌≡◌, ◌≤◌, ◌+◌, length, after_pieces, past_in, line_feed, pieces_of}
use Rattle.text_spec.proofs.lines.read_lines.Given as goal

-- what the lines so far and those that are left tell is what all lines tell
abbrev pub invariant-lines : goal.invariant-lines
invariant-lines g l =
    let r = g.R.LineReader in
    record {
      tells : after_pieces (r.grammar (r.rules l.reader)) l.number (r.past l.reader) (pieces_of line_feed l.rest) ≡ past_in (r.grammar (r.rules l.fn.reader)) (r.past l.fn.reader) l.text;
      same : r.rules l.reader ≡ r.rules l.fn.reader;
      counted : l.number + length l.rest ≤ length l.text + 1;
    }

abbrev pub decreases-lines : goal.decreases-lines
decreases-lines g l = length l.rest
