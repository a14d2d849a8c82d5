-- What holds of a ring is kept by each step, and by each list of steps.
use Rattle.ring_core.proofs.Names.{◌≡◌, ℕ, Bool, cond, ◌+◌, ◌<◌, true, Some, None, IfSome, is_some, List, [], ◌∷◌, ◌++◌, length, take, get_or, ◌∙◌, ap, zero, suc, arith, common_steps, take_more, Step, Look, Claim, Finish, See, Read, Offer, Mark, Sweep, Split, Join, Resume, HasSizes, possible, after, next, after_all, StopsAt, IsRing, Machine}
use Rattle.ring_core.proofs.Claims.{claim_keeps}
use Rattle.ring_core.proofs.Finishes.{finish_keeps}
use Rattle.ring_core.proofs.Keeps.{see_keeps, read_keeps, offer_keeps}
use Rattle.ring_core.proofs.Lives.{split_keeps, join_keeps, resume_keeps, look_keeps, mark_keeps}
use Rattle.ring_core.proofs.RingLaws.{step_of_next}

-- each kind of step keeps what holds of a ring
pub after_keeps : (m : Machine) → IsRing m → (step : Step) → possible m step ≡ true → IsRing (after m step)
after_keeps m r (Look i) ok = look_keeps m r i ok
after_keeps m r (Claim i) ok = claim_keeps m r i ok
after_keeps m r (Finish i) ok = finish_keeps m r i ok
after_keeps m r See ok = see_keeps m r
after_keeps m r Read ok = read_keeps m r
after_keeps m r (Offer k) ok = offer_keeps m r k ok
after_keeps m r (Mark i kind) ok = mark_keeps m r i kind ok
after_keeps m r (Sweep zero) ok = grind (arith, common_steps)
after_keeps m r (Sweep (suc kind)) ok = grind (arith, common_steps)
after_keeps m r Split ok = split_keeps m r ok
after_keeps m r (Join i) ok = join_keeps m r i ok
after_keeps m r (Resume i) ok = resume_keeps m r i ok

-- a step that is possible leads to the state after it
pub next_of_possible : (m : Machine) (step : Step) → possible m step ≡ true → next m step ≡ Some (after m step)
next_of_possible m step ok = ap (λ (b : Bool). cond b (Some (after m step)) None) ok

-- what follows a ring by a step is a ring
pub step_sound : {m now : Machine} → IsRing m → (step : Step) → next m step ≡ Some now → IsRing now
step_sound {m = m} {now = now} r step e = let is = step_of_next m now step e in rw (is.is_after) (after_keeps m r step is.possible_here)

pub next_keeps : (m : Machine) → IsRing m → (step : Step) → IfSome (next m step) IsRing
next_keeps m r step = grind (arith, after_keeps m r step)

-- what follows a ring by any list of steps is a ring
pub runs_keep : (m : Machine) → IsRing m → (steps : List Step) → IfSome (after_all m steps) IsRing
runs_keep m r [] = r
runs_keep m r (step ∷ steps) = grind (arith, λ (ok : possible m step ≡ true). runs_keep (after m step) (after_keeps m r step ok) steps)

-- one step more
after_all-step : (start m : Machine) (steps : List Step) (step : Step) → after_all start steps ≡ Some m
    → after_all start (steps ++ step ∷ []) ≡ next m step
after_all-step start m [] step e = grind (arith, e)
after_all-step start m (first ∷ steps) step e = grind (arith, e, after_all-step (after start first) m steps step)

-- the steps lead to this state, and it is that of a ring
pub record IsReached (start : Machine) (steps : List Step) (now : Machine) : Type 0 where
  pub reached : after_all start steps ≡ Some now
  pub sizes : HasSizes start.positions start.limit now
  pub sound : IsRing now

module _ (start m : Machine) (steps : List Step) (at : ℕ) (within : at < length steps) (so_far : after_all start (take at steps) ≡ Some m)
  where
    -- the step after the ones that were made
    pub one_more : after_all start (take (at + 1) steps) ≡ next m (get_or steps at (Look 0))
    one_more = ap (after_all start) (take_more steps at (Look 0) within)
        ∙ after_all-step start m (take at steps) (get_or steps at (Look 0)) so_far

    -- one that is not possible is the first
    pub run_stops : next m (get_or steps at (Look 0)) ≡ None → StopsAt start steps at
    run_stops none = record { within = within; before = ap is_some so_far; stops = one_more ∙ none }
