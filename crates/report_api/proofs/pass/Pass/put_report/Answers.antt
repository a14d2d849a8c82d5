use Rattle.report_api.proofs.Names.{◌≡◌, length, refl, arith, common_steps, nil_from_length, Absent}
use Rattle.report_api.proofs.{plain_after, put_adds}
use Rattle.report_api.proofs.pass.Pass.put_report.Goals as goal

pub returns : goal.returns
returns c =
    let told = rw c.bare-act.ensures at c.put.ensures.told in
    let none : length c.args.context.now ≡ 0 = grind (arith, c.if-not-is_empty.false, c.is_empty.ensures) in
    record {
      mine = plain_after c.requires.at _ c.put.ensures.mine c.put.ensures.held c.put.ensures.spare _ (put_adds _ _ _ refl told) refl (λ i. refl);
      ticket = c.put.ensures.ticket;
      told = (Absent, nil_from_length c.args.context.now none, told);
      classes = (λ _. refl, λ any. absurd (omega (arith, any, none)));
      few = grind (arith, common_steps, told);
    }
