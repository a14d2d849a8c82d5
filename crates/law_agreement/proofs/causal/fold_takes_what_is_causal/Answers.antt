use Rattle.cmd_steps.proofs.Names.{ap, folded_in, journal_in, refl, sym, ◌∙◌, ◌≡◌}
use Rattle.text_spec.proofs.JournalLaws.{journal_is_told, told_is_journal}
use Rattle.cmd_spec.specs.FoldedJournal.{due_to, held_back_line, unless_held_back}
use Rattle.law_agreement.proofs.CausalLemmas.{folded_was, folds_as, held_back_first, none_held_back, told_line}
use Rattle.law_agreement.proofs.causal.fold_takes_what_is_causal.Goals as goal

pub returns : goal.returns
returns c = record {
  takes = λ config text told few. (
    λ folded.
        let was = folded_was (λ t. held_back_line 1 (due_to config t.turns) t.turns) (journal_in config text) told folded in
        (told_is_journal config few text told was.0, (none_held_back config told.turns).0 was.1),
    λ is. folds_as config text told few is.0 is.1,
  );
  refuses = λ config text told line few journal.
      let found = held_back_line 1 (due_to config told.turns) told.turns in
      let read : folded_in config text ≡ unless_held_back told found = rw (journal_is_told config few text told journal) refl in (
        λ refused. (held_back_first config told.turns line).0 (told_line told line found (sym read ∙ refused)),
        λ first. read ∙ ap (unless_held_back told) ((held_back_first config told.turns line).1 first),
      );
}
