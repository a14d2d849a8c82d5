-- The losses by a rest are those of the fates by then; later ones are lost calls. At the start there are none.
use Rattle.history_spec.proofs.Names.{arith, fates_of}
use Rattle.history_spec.proofs.LossLemmas.{stands_own, loss_is, all_lost, none_lost}
use Rattle.history_spec.proofs.laws.what_had_become_by_a_rest.Goals as goal

pub returns-clause-at_a_rest : goal.returns-clause-at_a_rest
returns-clause-at_a_rest c n turns callers early rest same firsts merged later = record {
  settled = rw (all_lost n rest 0 callers early same (λ c i is. grind (arith, firsts i, is))) merged;
  sees = λ loss stands after.
      let its = loss_is n loss.caller 0 (fates_of callers loss.caller) loss (stands_own n callers loss stands) in
      omega (arith, later loss.caller its.0 its.1 its.2 (omega (arith, its.3)), its.4);
}

pub returns-clause-at_start : goal.returns-clause-at_start
returns-clause-at_start c n turns losses = record {
  settled = rw (none_lost losses) (record { each_once = λ c call. grind arith; in_order = λ c. tt; legal = λ loss stands. cc; looks_keep_up = λ c. tt; losses_in_order = tt });
  sees = λ loss stands after. omega arith;
}
