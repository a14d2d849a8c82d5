use Rattle.report_api.proofs.Names.{rules, refl, ◌∙◌, arith, queue_seats, caller_memo, Lost}
use Rattle.report_api.proofs.{lost_event, plain_after, put_tells}
use Rattle.report_api.proofs.pass.Pass.report.Goals as goal

pub returns-in-Ok : goal.returns-in-Ok
returns-in-Ok c =
    put_tells c.in-Ok.field-0 c.claim.new.self c.put_report.result _ (search rules) c.in-Ok.ensures.told c.in-Ok.ensures.held c.put_report.ensures

pub returns-in-Err : goal.returns-in-Err
returns-in-Err c =
    let marked = c.mark_lost_event.ensures.told in
    let call = lost_event (queue_seats c.args.shared.now.queue) (caller_memo c.args.self.now.seat) (caller_memo c.claim.new.self) c.in-Err.look marked.0
    (caller_memo c.mark_lost_event.new.self) c.in-Err.ensures.told marked.1 in
    record {
      mine = plain_after c.requires.mine.at _ c.mark_lost_event.ensures.mine (c.mark_lost_event.ensures.held ∙ c.in-Err.ensures.held) c.requires.mine.at.has_spare
          (Lost c.in-Err.look.claimed) (grind (arith, call)) refl (λ i. refl);
      told = (search rules, (_, marked.0, c.in-Err.ensures.told, marked.1));
      classes = refl;
      steps = omega (arith, call.few_moves);
    }
