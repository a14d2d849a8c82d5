use Rattle.gen_recording.proofs.Names.{sym, ◌∙◌}
use Rattle.gen_recording.proofs.RecordingLemmas.{small_classes}
use Rattle.gen_recording.proofs.entries.class_for.Goals as goal

pub returns : goal.returns
returns c = c.too_small.ensures ∙ sym (small_classes c.args.bytes c.args.classes.now)
