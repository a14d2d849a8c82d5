use Rattle.std.proofs.Common.{◌≡◌, ℕ, ◌<◌, length, arith, rules, slice_index_or, subst}
use Rattle.idsm_api.specs.declared.caller.Caller.{Caller}
use Rattle.first_report.specs.Reporting.{HasReported}
use Rattle.first_report.proofs.report_all.Goals as goal

pub returns : goal.returns
returns g c =
    let olds = c.args.callers.now in
    let news = c.for_each_mut.new.s in
    let each : (i : ℕ) (d : Caller) → i < length olds → HasReported (slice_index_or olds i d) (slice_index_or news i d) = λ i d low.
    let here = (c.for_each_mut.ensures i d low).1 in
    subst (λ (old : Caller). HasReported old (slice_index_or news i d)) here.argument_is
    (subst (λ (new : Caller). HasReported here.argument.now new) here.left here.call) in
    let as_many : length news ≡ length olds = search rules in
    record {
      same = record { as_many = as_many; each = λ i d low. let it = each i d (omega (arith, as_many, low)) in (it.fits, it.same) };
      each = λ i d low. (each i d (omega (arith, as_many, low))).one;
    }
