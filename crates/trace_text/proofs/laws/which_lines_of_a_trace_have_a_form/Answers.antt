use Rattle.text_spec.proofs.TraceForms.{trace_line_again, trace_told_is}
use Rattle.trace_text.proofs.FormLemmas.{none_has, told_has}
use Rattle.trace_text.proofs.laws.which_lines_of_a_trace_have_a_form.Goals as goal

pub returns : goal.returns
returns c = record {
  told = told_has;
  none = none_has;
  printed = λ words line read exact. (trace_told_is words line read).are exact;
  again = trace_line_again;
}
