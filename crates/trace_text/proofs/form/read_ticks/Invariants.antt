use Rattle.trace_text.proofs.Names.{◌≡◌, length, numbers_in}
use Rattle.text_spec.proofs.NumberLists.{with_front}
use Rattle.trace_text.proofs.form.read_ticks.Given as goal

-- the ticks so far and those of the words that are left are those of all words
abbrev pub invariant-loop-rest : goal.invariant-loop-rest
invariant-loop-rest l = with_front l.ticks.items (numbers_in (length l.rest) l.rest) ≡ numbers_in (length l.fn.words) l.fn.words

abbrev pub decreases-loop-rest : goal.decreases-loop-rest
decreases-loop-rest l = length l.rest
