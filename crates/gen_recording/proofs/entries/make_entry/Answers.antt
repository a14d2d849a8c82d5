use Rattle.gen_recording.proofs.Names.{line_asked}
use Rattle.gen_recording.proofs.RecordingLemmas.{calls_more}
use Rattle.gen_recording.proofs.entries.make_entry.Goals as goal

pub returns-clause-counts : goal.returns-clause-counts
returns-clause-counts c past are = record {
  calls = rw c.in_ok-call.ensures.more (calls_more _ past _ c.args.caller (line_asked c.args.line) c.requires.caller are.calls);
  claims = c.in_ok-act.ensures.claims past c.args.caller are.claims;
}
