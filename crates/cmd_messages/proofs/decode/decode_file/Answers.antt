use Rattle.cmd_steps.proofs.Names.{decode, decoded_text, file, goes_on, judged, messages_judged, reading_of, refl}
use Rattle.cmd_steps.proofs.MadeLemmas.{text_ends}
use Rattle.cmd_messages.proofs.CopyLemmas.{unread}
use Rattle.cmd_messages.proofs.decode.decode_file.Goals as goal

pub returns-in_err-bytes : goal.returns-in_err-bytes
unfolding reading_of
returns-in_err-bytes g c =
    unread _ (decode c.args.name.now) _ _ (messages_judged decoded_text) refl _ _ c.from_residual.ensures.1 c.in_err-bytes.ensures.reads

pub returns : goal.returns
unfolding reading_of
returns g c =
    text_ends (decode c.args.name.now) c.lines_of.result _ _
    (goes_on (file 67108864 c.args.name.now) (messages_judged decoded_text) _ _ _ _ c.in_ok-bytes.ensures.reads _
    (judged _ _ _ (rw c.deref.ensures.value at c.lines_of.ensures))) refl
