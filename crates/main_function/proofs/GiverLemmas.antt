-- The givers of a manager's desk.
use Rattle.main_function.proofs.Names.{ℕ, ◌≤◌, ◌<◌, length, subst, arith, there, AreGiversOf, givers_of, late_of}
use Rattle.buffer_classes.specs.declared.class.Classes.{Classes}
use Rattle.buffer_classes.specs.declared.givers.Givers.{Givers}

-- few buffers of a class are late
pub few_late : (classes : Classes) (givers : Givers) → AreGiversOf classes givers → (i : ℕ) → i < length (givers_of givers) → late_of givers i ≤ 1024
few_late classes givers are i below =
    let giver = there (givers_of givers) i below in
    let class = there classes.classes.items i (subst (λ n. i < n) are.all below) in
    let is = are.each i class.0 giver.0 class.1 giver.1 in
    let ring = is.is_keeper.keeping.ring_is in
    rw giver.1 (omega (arith, is.few, is.number_is, ring.positions_are, ring.sizes.most_positions))
