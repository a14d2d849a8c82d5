use Rattle.text_spec.proofs.JournalLaws.{told_is, none_has_none}
use Rattle.text_spec.proofs.journal.which_lines_have_a_form.Goals as goal

pub returns : goal.returns
returns c = record { told = λ words line read. (told_is words line read).0; none = none_has_none }
