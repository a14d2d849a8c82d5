use Rattle.idsm_api.proofs.Names.{◌≡◌, arith, arc_value, Caller, caller_shares, common_steps}
use Rattle.std.proofs.lemmas.List.Elements.{All-push}
use Rattle.idsm_api.proofs.making.callers_of.Goals as goal

pub loop-pass-preserved : goal.loop-pass-preserved
loop-pass-preserved c =
    let one : Caller = record { shared = c.in_ok-try_clone.field-0; pass = c.in-Some.pass } in
    let same : caller_shares one ≡ arc_value c.args.shared.now = c.in_ok-try_clone.ensures in (
      tt,
      tt,
      grind (arith, common_steps),
      rw c.push_reserved.ensures.items (All-push (λ (caller : Caller). caller_shares caller ≡ arc_value c.args.shared.now) c.loop-pass.callers.items one c.loop-pass.invariant.3 same),
      grind (arith, common_steps),
    )
