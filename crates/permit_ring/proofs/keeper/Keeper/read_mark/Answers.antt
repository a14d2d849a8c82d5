use Rattle.permit_ring.proofs.{arith, ℕ, ◌+◌, ◌%◌, sym, ap, ap₂, ◌∙◌, see_ready}
use Rattle.permit_ring.proofs.keeper.Keeper.read_mark.Goals as goal

pub load-requires : goal.load-requires
load-requires g c =
    let mine = c.requires.mine in
    let ring = mine.keeping.ring_is in
    let next = mine.next_is ∙ ap₂ ◌%◌ mine.reaped_is (sym ring.positions_are) in (
      mine.keeping.at_table,
      omega (arith, ring.words_are, mine.next_is, ring.positions_are, ring.sizes.some_position),
      see_ready _ _ _ _ _ _ _ _ mine.keeping.keeps _ (ring.slots_are ∙ sym ring.positions_are) (ap (λ (p : ℕ). p + 3) next),
    )
