use Rattle.cmd_words.proofs.Names.{◌≡◌, length, map, string_bytes, are_names}
use Rattle.cmd_words.proofs.differing.names_differ.Given as goal

abbrev pub decreases-loop-word : goal.decreases-loop-word
decreases-loop-word l = length l.left

abbrev pub invariant-loop-word : goal.invariant-loop-word
invariant-loop-word l = are_names (map string_bytes l.left) ≡ are_names (map string_bytes l.words)
