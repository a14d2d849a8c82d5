use Rattle.cmd_steps.proofs.Names.{AreWritten, Work, arith, did_work, served_ends, subst, sym, ◌∙◌}
use Rattle.law_agreement.specs.Agreement.{check_again, fold_again}
use Rattle.law_agreement.proofs.AgreementLemmas.{check_serves, fold_serves, history}
use Rattle.law_agreement.proofs.laws.replay_fold_and_check_agree.Goals as goal

pub returns : goal.returns
returns c = record {
  folded = λ names old left found new messages memory before after was finds ran.
      let own = (history names old left found was finds).written in
      let did = did_work (fold_again names messages memory) found new before after finds.tells _
      (fold_serves names old left found was finds messages memory) ran.answer ran.ends ran.puts in
      let written = subst (λ (w : Work). AreWritten w.outputs new.files) did.is_work did.written in
      record { messages_are = written.0 ∙ sym own.0; memory_is = written.1.0 ∙ sym own.1.0 };
  folds = λ names old left found new messages memory status before after was finds ran.
      served_ends (fold_again names messages memory) status found new before after finds.tells _
      (fold_serves names old left found was finds messages memory) ran.answer (λ refusal none. none) ran.ends ran.puts;
  checks = λ names old left found new status before after was finds ran.
      grind (
        arith,
        served_ends (check_again names) status found new before after finds.tells _
            (check_serves names old left found was finds) ran.answer (λ refusal none. none) ran.ends ran.puts,
      );
}
