use Rattle.chain_endings.proofs.Lemmas.{turn_at, ◌≡◌, filter, length, take, is_report}
use Rattle.chain_endings.proofs.turns.reports_in.Given as goal

-- the reports among the first entries are counted
abbrev pub invariant-loop-i : goal.invariant-loop-i
invariant-loop-i l =
    l.reports ≡ length (filter (λ entry. is_report entry.act) (take l.i (turn_at l.history.turns l.turn).entries))
