use Rattle.std.proofs.Common.{◌≡◌, length, arith, rules, slice_index_or, subst}
use Rattle.idsm_api.specs.{IsFitCaller, IsSameCaller}
use Rattle.idsm_api.specs.declared.caller.Caller.{Caller}
use Rattle.first_journal.proofs.report_all.Goals as goal

pub returns : goal.returns
returns g c =
    let olds = c.args.callers.now in
    let news = c.for_each_mut.new.s in
    let many : length news ≡ length olds = search rules in
    record {
      as_many = many;
      each = λ i d low.
          let here = (c.for_each_mut.ensures i d (omega (arith, many, low))).1 in
          let is = subst (λ (new : Caller). IsFitCaller new × IsSameCaller here.argument.now new) here.left here.call in
          subst (λ (old : Caller). IsFitCaller (slice_index_or news i d) × IsSameCaller old (slice_index_or news i d)) here.argument_is is;
    }
