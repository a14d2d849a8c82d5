use Rattle.frame_auth.proofs.Names.{◌≡◌, ℕ, ◌<◌, get_or}
use Rattle.frame_auth.proofs.unsealing.are_same.Given as goal

abbrev pub invariant-loop-i : goal.invariant-loop-i
invariant-loop-i l = record {
  none : l.found ≡ 0 → (k : ℕ) → k < l.i → get_or l.a k 0 ≡ get_or l.b k 0;
  same : l.a ≡ l.b → l.found ≡ 0;
}
