use Rattle.chain_endings.proofs.Lemmas.{◌≡◌, ◌++◌, map, range_with_len, text_of, account_line}
use Rattle.chain_endings.proofs.account.push_accounts.Given as goal

-- the accounts of the first events have been printed
abbrev pub invariant-loop-event : goal.invariant-loop-event
invariant-loop-event l =
    l.out.items ≡ l.initial.out.items ++ text_of (map (account_line l.parts l.history.turns) (range_with_len 0 l.event))
