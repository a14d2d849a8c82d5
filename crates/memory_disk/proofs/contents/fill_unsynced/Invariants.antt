use Rattle.std.proofs.Common.{◌≡◌, ℕ, ◌<◌, get_or}
use Rattle.memory_disk.specs.Disks.{IsWritten}
use Rattle.memory_disk.proofs.contents.fill_unsynced.Given as goal

abbrev pub invariant-loop-i : goal.invariant-loop-i
invariant-loop-i l = record {
  filled : (k : ℕ) → k < l.i → IsWritten l.unsynced k → get_or l.bytes k 0 ≡ l.fill;
  others : (k : ℕ) → ¬ IsWritten l.unsynced k → get_or l.bytes k 0 ≡ get_or l.initial.bytes k 0;
}
