use Rattle.std.proofs.Common.{length}
use Rattle.memory_disk.proofs.contents.+is_written.Given as goal

abbrev pub decreases-is_written : goal.decreases-is_written
decreases-is_written l = length l.unsynced.now
