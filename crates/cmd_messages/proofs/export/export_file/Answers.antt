use Rattle.cmd_steps.proofs.Names.{export, exported_of, file, goes_on, judged, messages_judged, reading_of, refl}
use Rattle.cmd_steps.proofs.MadeLemmas.{text_ends}
use Rattle.message_export.specs.Exported.{exported}
use Rattle.cmd_messages.proofs.CopyLemmas.{unread}
use Rattle.cmd_messages.proofs.export.export_file.Goals as goal

pub returns-in_err-bytes : goal.returns-in_err-bytes
unfolding reading_of
returns-in_err-bytes g c =
    unread _ (export (exported_of c.args.names)) _ _ (messages_judged (exported c.args.names.format)) refl _ _ c.from_residual.ensures.1
    c.in_err-bytes.ensures.reads

pub returns : goal.returns
unfolding reading_of
returns g c =
    text_ends (export (exported_of c.args.names)) c.text_of.result _ _
    (goes_on (file 16777216 c.args.names.messages.now) (messages_judged (exported c.args.names.format)) _ _ _ _ c.in_ok-bytes.ensures.reads _
    (judged _ _ _ (rw c.deref.ensures.value at c.text_of.ensures))) refl
