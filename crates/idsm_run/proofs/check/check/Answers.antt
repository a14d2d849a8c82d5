use Rattle.cmd_steps.proofs.Names.{Recorded, check, check_judged, file, goes_on, judged, left_unread, messages_of, reading_of, recorded_in, refl, stops_early, three_of, ◌>>=◌}
use Rattle.cmd_steps.proofs.MadeLemmas.{text_ends}
use Rattle.idsm_run.proofs.TaskLemmas.{unread}
use Rattle.idsm_run.proofs.check.check.Goals as goal

pub returns-in_err-inputs : goal.returns-in_err-inputs
unfolding reading_of
returns-in_err-inputs g c =
    let names = three_of c.args.names in
    let next = λ (own : Recorded). file 67108864 names.messages >>= λ bytes. check_judged bytes (messages_of own.config own.told.turns) in
    unread _ (check names) _ _ next refl _ _ c.from_residual.ensures.1 c.in_err-inputs.ensures.reads

pub returns-in_err-bytes : goal.returns-in_err-bytes
unfolding reading_of
returns-in_err-bytes g c =
    let names = three_of c.args.names in
    left_unread (check names) _ c.in_err-bytes.field-0.0 _ _ c.from_residual-in_err-bytes.ensures.1
    (goes_on (recorded_in names.from)
    (λ (own : Recorded). file 67108864 names.messages >>= λ bytes. check_judged bytes (messages_of own.config own.told.turns)) _ _ _ _
    c.in_ok-inputs.ensures.reads _ (stops_early (file 67108864 names.messages) _ _ _ _ c.in_err-bytes.ensures.reads))

pub returns : goal.returns
unfolding reading_of
returns g c =
    let names = three_of c.args.names in
    text_ends (check names) c.compare.result _ _
    (goes_on (recorded_in names.from)
    (λ (own : Recorded). file 67108864 names.messages >>= λ bytes. check_judged bytes (messages_of own.config own.told.turns)) _ _ _ _
    c.in_ok-inputs.ensures.reads _
    (goes_on (file 67108864 names.messages) _ _ _ _ _ c.in_ok-bytes.ensures.reads _
    (judged _ _ _ (rw (c.deref.ensures.value, c.deref-2.ensures.value, c.in_ok-inputs.ensures.folds.sent_bytes) at c.compare.ensures)))) refl
