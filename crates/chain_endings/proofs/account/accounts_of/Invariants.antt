use Rattle.chain_endings.proofs.Lemmas.{ℕ, ◌<◌, length, map, reverse, take, ending_of, AreOf, IsAtMost, kept_at}
use Rattle.chain_endings.proofs.account.accounts_of.Given as goal

-- the accounts are those of the first endings, and no number is above theirs
abbrev pub invariant-loop-ending : goal.invariant-loop-ending
invariant-loop-ending l = record {
  are : AreOf l.parts (reverse (map ending_of (take l.ending-index l.told))) l.accounts.items;
  few : (k : ℕ) → k < length l.accounts.items → IsAtMost l.ending-index (kept_at l.accounts.items k);
}
