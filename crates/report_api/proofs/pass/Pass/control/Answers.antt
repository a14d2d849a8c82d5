use Rattle.report_api.proofs.Names.{◌≡◌, ℕ, sizes_of, rules, refl, arith, queue_seats, caller_memo, item_by, Got, Lost}
use Rattle.report_api.proofs.{control_asks, lost_call, plain_after, put_call}
use Rattle.report_api.proofs.pass.Pass.control.Goals as goal

pub returns-in-Ok : goal.returns-in-Ok
returns-in-Ok c =
    let limit = queue_seats c.args.shared.now.queue in
    let old = caller_memo c.args.self.now.seat in
    let mid = caller_memo c.claim.new.self in
    let same : c.in-Ok.field-0 ≡ c.put.result = cc (c.in-Ok.ensures.held, c.put.ensures.ticket) in
    let claims = rw same at c.in-Ok.ensures.told in
    let its = λ (i : ℕ). control_asks (sizes_of c.args.shared.now) i c.args.act c.requires.control in
    let call = put_call limit old mid c.put.result claims c.args.act (caller_memo c.put.new.seat) c.put.ensures.told in
    record {
      mine = plain_after c.requires.mine.at _ c.put.ensures.mine c.put.ensures.held c.put.ensures.spare (Got c.put.result.0 (item_by mid c.args.act))
          (grind (arith, call, its 0)) refl (λ i. (its i).0);
      told = (search rules, (mid, claims, c.put.ensures.told));
      claimant_is = refl;
      steps = omega (arith, call.few_moves);
    }

pub returns-in-Err : goal.returns-in-Err
returns-in-Err c =
    let call = lost_call (queue_seats c.args.shared.now.queue) (caller_memo c.args.self.now.seat) (caller_memo c.claim.new.self) c.in-Err.look c.in-Err.ensures.told in
    record {
      mine = plain_after c.requires.mine.at _ c.in-Err.ensures.mine c.in-Err.ensures.held c.requires.mine.at.has_spare (Lost c.in-Err.look.claimed) (grind (arith, call)) refl (λ i. refl);
      told = (search rules, c.in-Err.ensures.told);
      claimant_is = refl;
      steps = omega (arith, call.few_moves);
    }
