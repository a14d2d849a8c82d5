use Rattle.journal.proofs.Names.{arith, map, decimal, join_with_byte, point, pointed, rules, sym}
use Rattle.journal.proofs.AppendingLemmas.{handed_on, one_appended, one_refused}
use Rattle.journal.proofs.PrintingLemmas.{claims-push}
use Rattle.std.proofs.lemmas.Option.{get_or_from_slice_get}
use Rattle.journal.proofs.printing.push_claims.Goals as goal

pub loop-i-preserved : goal.loop-i-preserved
loop-i-preserved c =
    let is = sym (get_or_from_slice_get c.args.numbers.now c.loop-i.i c.unwrap.result 0 (search rules)) in
    one_appended (λ numbers. join_with_byte point (map decimal numbers)) pointed claims-push _ _ _ _ _ _ _ (omega arith) is c.loop-i.invariant c.in_ok-push_claim.ensures

pub returns-in_err-push_claim : goal.returns-in_err-push_claim
returns-in_err-push_claim c =
    let is = sym (get_or_from_slice_get c.args.numbers.now c.loop-i.i c.unwrap.result 0 (search rules)) in
    handed_on _ _ _ _ _ _ c.from_residual.ensures.1 (one_refused (λ numbers. join_with_byte point (map decimal numbers)) pointed claims-push _ _ _ _ _ _ _ _ (omega arith) is c.loop-i.invariant c.in_err-push_claim.ensures)
