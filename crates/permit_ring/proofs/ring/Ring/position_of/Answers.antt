use Rattle.permit_ring.proofs.Names.{◌≡◌, ℕ, ◌-◌, ◌+◌, ◌%◌, ◌^◌, ◌<◌, refl, sym, ◌∙◌, ap, arith, count_ones, ◌*◌}
use Rattle.std.proofs.lemmas.Nat.{and_mask, leading_top, ones_cat, ones_le_self, zero_from_ones}
use Rattle.permit_ring.proofs.ring.Ring.position_of.Goals as goal
use lib.Bits.{bit_and}
use lib.Count.{ones}
use native.Mathlib.Numerals.{unary_clauses}

-- where one digit of n is set, n is a power of two, and the low bits of a ticket are its position
masked : (n ticket : ℕ) → n < 2 ^ 11 → count_ones n ≡ 1 → bit_and ticket (n - 1) ≡ ticket % n
unfolding ones
masked n ticket few one =
    let top = leading_top 11 n (omega (arith, ones_le_self n)) few in
    let p : ℕ = 2 ^ top.0 in
    let below = simp unary_clauses at top.3 in
    let rest : n - p < p = omega (arith, below, top.2) in
    let whole : 1 * p + (n - p) ≡ n = omega (arith, top.2) in
    let first : count_ones 1 ≡ 1 = refl in
    let none = zero_from_ones (n - p) (omega (arith, ones_cat top.0 1 (n - p) rest, ap count_ones whole)) in
    let is : n ≡ p = omega (arith, top.2) in
    ap (λ (m : ℕ). bit_and ticket (m - 1)) is ∙ and_mask ticket top.0 ∙ ap (λ (m : ℕ). ticket % m) (sym is)

pub returns-then-is_power_of_two : goal.returns-then-is_power_of_two
returns-then-is_power_of_two g c = masked c.args.self.now.positions c.args.ticket (omega (arith, c.requires.positions_are, c.requires.sizes))
    (grind (arith, c.is_power_of_two.ensures, c.if-is_power_of_two.true))
