use Rattle.journal.proofs.Names.{take, numbers_in, ◌≡◌, ◌+◌, ◌-◌, suc, sym, ◌∙◌, arith, length-set, front_more, numbers_more, common_steps}
use Rattle.journal.proofs.claims.numbers_of.Goals as goal

pub loop-i-preserved : goal.loop-i-preserved
loop-i-preserved c =
    let i = c.loop-i.i in
    let left : 4 - i ≡ suc (4 - (i + 1)) = omega arith in
    let read = numbers_more (4 - (i + 1)) c.in_ok-value.value c.loop-i.rest c.in_ok-value.next (sym c.any_number.ensures ∙ c.in_ok-value.was) in
    let more = front_more (take i c.loop-i.values) c.in_ok-value.value (numbers_in (4 - (i + 1)) c.in_ok-value.next) in
    grind (arith, common_steps, length-set, left, read, more)
