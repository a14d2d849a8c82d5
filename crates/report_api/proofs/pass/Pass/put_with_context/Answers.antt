use Rattle.report_api.proofs.Names.{ℕ, length, refl, ap, arith, common_steps, sizes_of, pass_memo, Kept, first_fitting}
use Rattle.report_api.proofs.{missing_within, steps_for, first_in, kept_asks, missed_adds, looks_lost, pass_after, put_adds}
use Rattle.report_api.proofs.pass.Pass.put_with_context.Goals as goal

pub put_missing-requires-clause-few : goal.put_missing-requires-clause-few
put_missing-requires-clause-few c =
    grind (arith, common_steps, c.requires.at, c.requires.busy, missing_within (pass_memo c.args.self.now).log)

pub returns-in-Some : goal.returns-in-Some
returns-in-Some c =
    let sizes = sizes_of c.args.shared.now in
    let bytes = c.args.context.now in
    let did = c.in-Some.ensures in
    let first : ℕ = first_fitting (length bytes) sizes in
    let looks = c.claim_noting.new.looks in
    let filled = c.fill.new.self in
    let told = rw c.kept-act.ensures at c.put.ensures.told in
    record {
      mine = pass_after c.requires.at _ c.put.ensures.mine c.put.ensures.held c.put.ensures.spare _ (put_adds _ _ _ refl told) did.mine did.counted.1
          (omega (arith, did.counted.0)) _ did.logs
          (λ i. rw (c.fill.ensures, ← (first_in (length bytes) 0 sizes c.requires.at.claimant.are.rise).0) (kept_asks first i c.in-Some.buf looks did.told.0));
      ticket = c.put.ensures.ticket;
      told = (Kept filled.class filled.claim filled, grind (arith, c.requires.some, c.fill.ensures, did), told);
      classes = (λ nothing. absurd (omega (arith, c.requires.some, ap length nothing)), λ any. (c.in-Some.buf, looks, did.told, did.steps));
      few = grind (arith, common_steps, steps_for sizes bytes c.requires.some, did.few_steps, told);
    }

pub returns-in-None : goal.returns-in-None
returns-in-None c =
    let put = c.put_missing in
    let sizes = sizes_of c.args.shared.now in
    let bytes = c.args.context.now in
    let did = c.in-None.ensures in
    let looks = c.claim_noting.new.looks in
    rw put.ensures.reported.1 (record {
      mine = pass_after c.requires.at _ put.ensures.mine put.ensures.held put.ensures.spare _ (missed_adds _ _ _ put.ensures.told.0 refl put.ensures.told.1)
          did.mine did.counted.1 (omega (arith, did.counted.0)) _ did.logs
          (λ i. grind (arith, looks_lost (first_fitting (length bytes) sizes) i looks, did.told));
      ticket = put.ensures.reported.2;
      told = (c.requires.some, did.told, put.ensures.told);
      classes = did.steps;
      few = grind (arith, common_steps, steps_for sizes bytes c.requires.some, did.few_steps, put.ensures.told);
    })
