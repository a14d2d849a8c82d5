use Rattle.trace_replay.proofs.Names.{[], arith, cases_lt, get_or_append_left, get_or_push, inl, inr, length, length_push, sym, ◌∷◌, ◌≡◌}
use Rattle.trace_replay.proofs.handing.take_back.Goals as goal

pub loop-i-preserved : goal.loop-i-preserved
loop-i-preserved g c =
    let front = c.loop-i.callers.items in
    let caller = c.in_ok-caller.caller in
    let was = c.loop-i.invariant in
    let more = length_push front caller in
    rw c.in_ok-push.ensures.items (
      λ i d low. elim (cases_lt i (length front)) [
        | inl below ↦ rw (get_or_append_left front (caller ∷ []) d i below) (was.0 i d below)
        | inr above ↦
            let at : i ≡ length front = omega (arith, low, above, more) in rw (get_or_push front caller d i (sym at), at, was.1) c.in_ok-caller.ensures
      ],
      omega (arith, was.1, more),
    )
