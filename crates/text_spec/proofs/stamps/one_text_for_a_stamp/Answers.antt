use Rattle.text_spec.proofs.Names.{sym, refl, Some}
use Rattle.text_spec.proofs.StampsLemmas.{stamp_again, stamp_takes}
use Rattle.text_spec.proofs.stamps.one_text_for_a_stamp.Goals as goal

pub returns : goal.returns
returns c = record { absent = refl; read = λ n small. stamp_again (Some (record { 0 = n })) small; only = λ word stamp read. sym (stamp_takes word stamp read).1 }
