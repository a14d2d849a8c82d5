-- The logs of rings as plain data.
use Rattle.law_closing.proofs.Names.{some, decided_on, get_elem?, length-map, ◌≡◌, ◌≢◌, ℕ, suc, ◌≤◌, Some, List, [], ◌∷◌, map, refl, length, ne_eqb, arith, Lost, Got}
use Rattle.permit_ring.specs.declared.memo.Outcome.{Outcome}
use Rattle.ids_types.specs.Fates.{AreAllDecided, claims_got}
use Rattle.history_spec.specs.Settled.{IsSettledLog, claims_by}
use Rattle.permit_ring.specs.{IsWholeLog, fate_of, got_of, taken_by}
use Rattle.buffer_classes.specs.Names.{SeatMemo}

module _ {N : Type 0} where
  -- the tickets of a log
  pub got_as : (log : List (Outcome N)) → claims_got (map fate_of log) ≡ map (λ x. x.0) (got_of log)
  got_as [] = refl
  got_as (Lost g ∷ log) = got_as log
  got_as (Got t x ∷ log) = cc (got_as log)

-- the seats of the tickets that were taken are the claimants
pub claimed_as : (i t : ℕ) (taken : List (ℕ × Unit {0}))
    → claims_by i t (map (λ x. x.0) taken) ≡ map (λ x. x.0) (taken_by i t (map Some taken))
claimed_as i t [] = refl
claimed_as i t (x ∷ taken) = grind (arith, claimed_as i (suc t) taken)

-- who has none of the tickets claimed nothing
pub claimed_none : (i t : ℕ) (taken : List (ℕ × Unit {0})) → ((j : ℕ) (x : ℕ × Unit {0}) → get_elem? taken j ≡ some x → i ≢ x.0)
    → claims_by i t (map (λ x. x.0) taken) ≡ []
claimed_none i t [] other = refl
claimed_none i t (x ∷ taken) other = rw (ne_eqb i x.0 (other 0 x refl)) (claimed_none i (suc t) taken (λ j. other (suc j)))

-- a whole log is settled, where all fronts are as large as the ring
pub whole_settled : {number i : ℕ} {fronts : List ℕ} {taken : List (ℕ × Unit {0})} {memo : SeatMemo} → IsWholeLog fronts taken i memo
    → ((j front : ℕ) → get_elem? fronts j ≡ some front → number ≤ front)
    → IsSettledLog number (map (λ x. x.0) taken) i (map fate_of memo.log)
whole_settled {number = number} {i = i} {taken = taken} {memo = memo} whole large =
    let decided : AreAllDecided (length taken) (λ claimed. number ≤ claimed) (map fate_of memo.log) =
    decided_on whole.decided (λ g front. large front.0 g front.1) in
    grind (arith, decided, got_as memo.log, whole.got, claimed_as i 0 taken, length-map taken (λ x. x.0))
