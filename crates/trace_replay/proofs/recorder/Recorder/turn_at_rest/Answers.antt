use Rattle.trace_replay.proofs.Names.{Caller, length-map, on_ok_weaker, pass_memo, sym, views_of, ◌∙◌}
use Rattle.trace_replay.proofs.RecordingLemmas.{at_rest}
use Rattle.trace_replay.proofs.recorder.Recorder.turn_at_rest.Goals as goal

pub returns-clause-turns : goal.returns-clause-turns
returns-clause-turns g c =
    let made = rw c.in-Ok.is at c.turn_at_rest.follows.holds-at-none in
    let callers = c.args.callers.now in
    on_ok_weaker _ (λ there. at_rest c.requires.mine made.0 (rw made.1 at c.in_ok-add.ensures) there (views_of callers) (views_of c.turn_at_rest.new.passes)
    (length-map callers (λ (d : Caller). pass_memo d.pass) ∙ sym (length-map callers (λ (d : Caller). d.pass)) ∙ c.requires.passes.all) made.2) (rw c.log.ensures at c.check.ensures)
