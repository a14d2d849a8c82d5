use Rattle.trace_text.proofs.JournalLemmas.{merge_fits}
use Rattle.trace_text.proofs.laws.a_merge_fits_its_configuration.Goals as goal

pub returns : goal.returns
returns c = merge_fits
