use Rattle.frame_auth.proofs.Names.{◌≡◌, ◌++◌, Some, refl, sym, ap, ◌∙◌, arith, inr, seal_of, common_steps}
use Rattle.frame_auth.proofs.LayoutLemmas.{begins_so, no_seal, no_counter, sealed_with, other_counter, added_bare, moved}
use Rattle.frame_auth.proofs.unsealing.unseal_first.Goals as goal

pub returns-in_default-clause-place : goal.returns-in_default-clause-place
returns-in_default-clause-place c =
    inr (refl, begins_so c.in_ok-message.ensures.begins (no_seal _ _ _ c.signature.ensures.value c.in_default.ensures.none))

pub returns-in_default-counter_of-clause-place : goal.returns-in_default-counter_of-clause-place
returns-in_default-counter_of-clause-place c =
    let m = c.in_ok-message.message in
    let key = c.args.key.now in
    let part = c.in-Some.counter.now ++ c.in-Some.told.now in
    let some : m.signature ≡ Some part = sym c.signature.ensures.value ∙ c.in-Some.ensures.some.0 in
    let plain = c.split_at.ensures.back ∙ added_bare c.args.out.now.items c.deref.result.now c.in_ok-message.spelled.now part
    c.len-from.result m (c.deref.ensures.value ∙ c.in_ok-push_bare.ensures) c.in_ok-message.ensures.spelled
    (omega (arith, c.len-from.ensures)) some c.in-Some.ensures.some.1 in
    inr (
      refl,
      begins_so c.in_ok-message.ensures.begins
          (no_counter key part m some (λ count made. c.in_default-counter_of.ensures.none count (made ∙ ap (seal_of key count) (sym plain)))),
    )

pub returns-then-counter-due-clause-place : goal.returns-then-counter-due-clause-place
returns-then-counter-due-clause-place c = grind (arith, common_steps, begins_so, sealed_with, other_counter, added_bare)

pub returns-clause-found : goal.returns-clause-found
returns-clause-found c = grind (arith, common_steps, added_bare, moved)
