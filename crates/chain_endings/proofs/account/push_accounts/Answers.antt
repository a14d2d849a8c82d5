use Rattle.chain_endings.proofs.Lemmas.{Parts, text_of-append, ◌<◌, length, reverse, refl, ap, ◌∙◌, append_assoc, arith, common_steps, account_line, moments, told_account}
use Rattle.std.proofs.lemmas.List.FromFn.{map-range_with_len_more}
use Rattle.chain_endings.proofs.account.push_accounts.Goals as goal

pub loop-event-preserved : goal.loop-event-preserved
loop-event-preserved c =
    let config = c.args.parts.now in
    let turns = c.args.history.now.turns in
    let k = c.loop-event.event in
    let many = ap (λ (p : Parts). length p.events) c.parts.view_is in
    let within : k < length config.events = grind (arith, common_steps, c.loop-event-test.true, c.len-event-end.ensures, many) in
    let accounts = c.in_ok-accounts.ensures in
    let own = accounts.each k (omega (arith, within, accounts.events)) ∙ told_account config k (moments config (reverse turns)) c.requires in
    let lost = c.in_ok-missing.ensures.1 k (omega (arith, within, c.in_ok-missing.ensures.0, many, c.len.ensures)) in
    let more = map-range_with_len_more (account_line config turns) 0 k k (omega arith) in
    rw (c.in_ok-push_account.ensures, c.deref.ensures.value, c.deref-in-loop-event.ensures.value, own, lost, c.loop-event.invariant, append_assoc c.args.out.now.items, more, text_of-append) refl
