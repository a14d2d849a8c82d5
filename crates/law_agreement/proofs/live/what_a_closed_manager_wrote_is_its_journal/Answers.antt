use Rattle.cmd_steps.proofs.Names.{arith, length, served_ends, take_all}
use Rattle.cmd_spec.specs.Deserts.{EndsOrFails}
use Rattle.cmd_words.specs.Command.{check}
use Rattle.law_agreement.proofs.LiveLemmas.{checks, folds, still_a_journal, tells_the_same}
use Rattle.law_agreement.proofs.live.what_a_closed_manager_wrote_is_its_journal.Goals as goal

pub returns : goal.returns
returns c = record {
  closed = λ config passes turns few in_range causal calls. record {
    few_events = few;
    in_range = in_range;
    causal = causal;
    calls_rise = calls.merged.in_order;
  };
  whole = λ config turns all. rw (take_all (length turns) turns (omega arith)) at (folds config turns (length turns) all);
  cut = folds;
  checks = λ config turns k names found new status before after all holds ran.
      let ends : EndsOrFails 0 (check names) status found new before after =
      served_ends (check names) status found new before after holds.tells _ (checks config turns k all names found holds) ran.answer
      (λ refusal none. none) ran.ends ran.puts in
      grind (arith, ends);
  quiet = λ config front back turn intervals all is.
      (still_a_journal config front back turn intervals all is, tells_the_same config front back turn intervals all is);
}
