-- What holds of a ring holds of one whose positions are all free.
use Rattle.ring_core.proofs.Names.{ℕ, ◌≤◌, [], ◌∷◌, arith, common_steps, get_or-replicate, length-replicate, new_seat, opening, IsRing, IsSeat}
use Rattle.ring_core.proofs.SeatLemmas.{apart_same, seat_at-push, holders_stay_push}

pub opens : (n limit : ℕ) → 1 ≤ n → n ≤ 1024 → 1 ≤ limit → limit ≤ 32 → IsRing (opening n limit)
opens n limit some most one few =
    let each = seat_at-push [] (IsSeat 0 0) (λ i. grind (arith, common_steps)) (grind (arith, common_steps)) in
    let apart = apart_same [] (new_seat ∷ []) (holders_stay_push []) (λ i j t hi hj. absurd cc) in
    grind (arith, common_steps, length-replicate {A = ℕ} n 0, λ (p : ℕ). get_or-replicate {A = ℕ} n p 0 0)
