-- A pass after one call more.
use Rattle.report_api.proofs.Names.{IsPassOf, None, Some, IsControl, plain_act, ◌≡◌, ℕ, ◌+◌, ◌≤◌, is_some, true, List, [], ◌∷◌, ◌++◌, length, map, refl, ap, arith, append-nil, length_push, map-append, map_push, CallAsks, Follows, adds_mark, finishes, Act, Outcome, PassMemo, lost_events, lost_contexts, Lost, Got, IsPassAt, asks_of, call_of, calls_in, fate_of, misses_context, missing_in, pass_memo, sizes_of, Pass, Shared, ticket_in, common_steps}
use Rattle.history_spec.proofs.FollowsLemmas.{follows_after}
use Rattle.report_queue.specs.declared.cargo.Item.{Item}
use Rattle.buffer_classes.specs.Names as classes
use Rattle.buffer_classes.specs.Seats.{IsClaimSeatOf, claimant_of, claims_of, log_of}
use Rattle.report_queue.specs.Parts.{IsCallerOf, ticket_of}

missing-push : (log : List Outcome) (outcome : Outcome) → missing_in (log ++ outcome ∷ []) ≡ missing_in log + missing_in (outcome ∷ [])
missing-push [] outcome = omega arith
missing-push (Lost claimed ∷ log) outcome = missing-push log outcome
missing-push (Got ticket item ∷ log) outcome = omega (arith, missing-push log outcome)

-- no more contexts are missing than there are calls
pub missing_within : (log : List Outcome) → missing_in log ≤ length log
missing_within [] = omega arith
missing_within (Lost claimed ∷ log) = omega (arith, missing_within log)
missing_within (Got ticket item ∷ log) = grind (arith, missing_within log)

-- a control asks no class, and misses no context
pub control_asks : (sizes : List ℕ) (i : ℕ) (act : Act) → IsControl act → CallAsks sizes i (Some (plain_act act)) [] × (misses_context act ≡ 0)
control_asks sizes i act is = grind arith

-- one call more that is decided: its outcome stands in the log, and a missing context was marked
pub record AddsCall (old : PassMemo) (outcome : Outcome) (new : PassMemo) : Type 0 where
  pub number_is : new.number ≡ old.number
  pub log_is : new.log ≡ old.log ++ outcome ∷ []
  pub events_few : lost_events new ≤ lost_events old + 1
  pub contexts_are : lost_contexts new ≡ lost_contexts old + missing_in (outcome ∷ [])

module _ (old new : PassMemo) (item : Item Act) where
  -- an item that was put
  pub put_adds : misses_context item.payload ≡ 0 → new ≡ finishes item old → AddsCall old (Got (ticket_in old.view.held) item) new
  put_adds none told = grind (arith, common_steps, none, told)

  -- one that misses its context, which was marked
  pub missed_adds : (found : ℕ) → misses_context item.payload ≡ 1 → new ≡ adds_mark 1 found (finishes item old)
      → AddsCall old (Got (ticket_in old.view.held) item) new
  missed_adds found one told = grind (arith, common_steps, one, told)

module _ {shared : Shared} {old : Pass} (at : IsPassAt shared old) (new : Pass) (caller : IsCallerOf shared.queue new.seat)
    (held : ticket_of new.seat ≡ None) (spare : is_some new.spare ≡ true) (outcome : Outcome) (adds : AddsCall (pass_memo old) outcome (pass_memo new)) where
  -- the pass with one call more
  pub pass_after : (claimant : IsClaimSeatOf shared.classes new.claimant) (number : claimant_of new.claimant ≡ claimant_of old.claimant)
      (claims : claims_of new.claimant ≤ claims_of old.claimant + 1) (asked : ℕ → List classes.Outcome)
      (logs : (i : ℕ) → log_of new.claimant i ≡ log_of old.claimant i ++ asked i)
      (asks : (i : ℕ) → CallAsks (sizes_of shared) i (call_of outcome) (map fate_of (asked i))) → IsPassOf shared new
  pass_after claimant number claims asked logs asks =
      let old_log = (pass_memo old).log in
      let follows : (i : ℕ) → Follows (sizes_of shared) i (calls_in (pass_memo new).log) (asks_of new i) = λ i.
      rw (adds.log_is, map_push call_of old_log outcome, logs i, map-append fate_of (log_of old.claimant i) (asked i))
      (follows_after (sizes_of shared) i (calls_in old_log) (asks_of old i) (call_of outcome) (map fate_of (asked i)) (at.asks i) (asks i)) in
      let more = length_push old_log outcome in
      let missing = missing-push old_log outcome in
      grind (arith, at, caller, claimant, held, spare, number, claims, follows, adds, more, missing)

  -- the same where it asks for no buffer
  pub plain_after : new.claimant ≡ old.claimant → ((i : ℕ) → CallAsks (sizes_of shared) i (call_of outcome) []) → IsPassOf shared new
  plain_after same asks = pass_after (rw same (at.claimant)) (ap claimant_of same) (rw same (omega arith)) (λ i. [])
      (λ i. rw (same, append-nil (log_of old.claimant i)) refl) asks
