-- What decided calls make of a history and its losses.
use Rattle.history_spec.proofs.Names.{◌≡◌, ℕ, zero, suc, ◌+◌, ◌≤◌, ◌==◌, List, [], ◌∷◌, map, refl, inr, sym, eq-eqb, arith, Turn, entries_of, Entry, Loss, fates_of, AreDecided, tickets_from, tickets_of, IsDecided, losses_from, all_losses, Fate, lost, accepted, calls_of, IsTicket, IsLegalLoss, AreMerged, StandsIn, times, once_below, RiseFrom, length, cond_both, ap, ◌∙◌, some, some-injective, get_elem?, fate_within, fates_in_order}
use Rattle.history_spec.proofs.LossLemmas.{own_losses, stands_own, loss_is, givens_keep_up, losses_ordered}

-- the calls of a caller's entries are those with tickets
calls_with_tickets : (c ticket : ℕ) (es : List (Entry (List ℕ))) → calls_of c es ≡ map (λ p. p.0) (tickets_of c ticket es)
calls_with_tickets c ticket [] = refl
calls_with_tickets c ticket (e ∷ es) = let rest = calls_with_tickets c (suc ticket) es in grind (arith, rest)

-- they rise
calls_rise : (least call : ℕ) (fates : List Fate) → least ≤ call → RiseFrom least (map (λ p. p.0) (tickets_from call fates))
calls_rise least call [] le = tt
calls_rise least call (lost claimed ∷ fates) le = calls_rise least (suc call) fates (omega arith)
calls_rise least call (accepted ticket ∷ fates) le = (le, calls_rise (suc call) (suc call) fates (omega arith))

-- each call is accepted or lost
each_decided : (n x c call : ℕ) (fates : List Fate) → times x (map (λ p. p.0) (tickets_from call fates))
    + times x (map (λ (loss : Loss). loss.call) (losses_from n c call fates)) + once_below x call ≡ once_below x (call + length fates)
each_decided n x c call [] = grind arith
each_decided n x c call (lost claimed ∷ fates) = let rest = each_decided n x c (suc call) fates in grind (arith, rest)
each_decided n x c call (accepted ticket ∷ fates) = let rest = each_decided n x c (suc call) fates in grind (arith, rest)

-- an entry's call stands with its ticket
with_ticket : (c first ticket place : ℕ) (es : List (Entry (List ℕ))) (e : Entry (List ℕ)) → get_elem? es place ≡ some e → c ≡ e.caller
    → ticket ≡ first + place → StandsIn (tickets_of c first es) (e.call, ticket)
with_ticket c first ticket place [] e at own is = cc
with_ticket c first ticket zero (x ∷ es) e at own is =
    let same : first ≡ ticket = omega arith in rw (eq-eqb c x.caller (cc)) (0, cc)
with_ticket c first ticket (suc place) (x ∷ es) e at own is =
    let rest = with_ticket c (suc first) ticket place es e at own (omega arith) in
    cond_both (c == x.caller) _ _ (λ ts. StandsIn ts (e.call, ticket)) (λ _. (suc rest.0, rest.1)) (λ _. rest)

-- and is that of an accepted call
ticket_got : (call : ℕ) (fates : List Fate) (x ticket : ℕ) → StandsIn (tickets_from call fates) (x, ticket)
    → (place : ℕ) × (x ≡ call + place) × (get_elem? fates place ≡ some (accepted ticket))
ticket_got call [] x ticket (place, at) = cc
ticket_got call (lost claimed ∷ fates) x ticket stands =
    let rest = ticket_got (suc call) fates x ticket stands in (suc rest.0, omega (arith, rest.1), rest.2)
ticket_got call (accepted its ∷ fates) x ticket (zero, at) =
    (0, grind (arith, at), ap (λ (p : ℕ × ℕ). some (accepted p.1)) (some-injective _ _ at))
ticket_got call (accepted its ∷ fates) x ticket (suc place, at) =
    let rest = ticket_got (suc call) fates x ticket (place, at) in (suc rest.0, omega (arith, rest.1), rest.2)

module _ (n : ℕ) (turns : List Turn) where
  -- the ticket of a caller's call is that which the call got
  its_ticket : (c calls : ℕ) (fates : List Fate) → IsDecided n turns c calls fates → (call ticket : ℕ)
      → IsTicket turns c call ticket → get_elem? fates call ≡ some (accepted ticket)
  its_ticket c calls fates decided call ticket (e, at, by, is) =
      let stands = with_ticket c 0 ticket ticket (entries_of turns) e at (sym by) (omega arith) in
      let got = ticket_got 0 fates e.call ticket (rw (← decided.are_entries) at stands) in grind (arith, got.1, got.2, is)

  legal_loss : (loss : Loss) (calls : ℕ) (fates : List Fate) → IsDecided n turns loss.caller calls fates
      → StandsIn (losses_from n loss.caller 0 fates) loss → IsLegalLoss n turns loss
  legal_loss loss calls fates decided stands =
      let its = loss_is n loss.caller 0 fates loss stands in
      let front = decided.decided.at_front its.0 its.1 its.2 in
      let got = its_ticket loss.caller calls fates decided in
      record {
        given_back = (front.0, front.1, omega (arith, its.4, front.2));
        claimed = omega (arith, its.4, front.2, (fate_within 0 fates its.0 (lost its.1) decided.decided.rises its.2).1, decided.decided.within);
        earlier = λ call ticket less is.
            let order = fates_in_order 0 fates call its.0 _ _ decided.decided.rises (got call ticket is) its.2 (omega (arith, its.3)) in
            omega (arith, its.4, front.2, order);
        later = λ call ticket less is.
            let order = fates_in_order 0 fates its.0 call _ _ decided.decided.rises its.2 (got call ticket is) (omega (arith, its.3)) in
            omega (arith, its.4, front.2, order);
      }

  module _ (calls : ℕ → ℕ) (callers : List (List Fate)) (decided : AreDecided n calls turns callers) where
    calls_are : (c : ℕ) → calls_of c (entries_of turns) ≡ map (λ p. p.0) (tickets_from 0 (fates_of callers c))
    calls_are c = calls_with_tickets c 0 (entries_of turns) ∙ sym (ap (map (λ p. p.0)) (decided c).are_entries)

    pub are_merged : AreMerged n calls turns (all_losses n 0 callers)
    are_merged = record {
      each_once = λ c call. rw (calls_are c, own_losses n c callers) (grind (arith, each_decided n call c 0, (decided c).calls_are));
      in_order = λ c. rw (calls_are c) (calls_rise 0 0 (fates_of callers c) (omega arith));
      legal = λ loss stands. legal_loss loss _ _ (decided loss.caller) (stands_own n callers loss stands);
      looks_keep_up = λ c. rw (own_losses n c callers) (givens_keep_up n 0 c 0 0 (fates_of callers c) (omega arith) (decided c).decided.rises);
      losses_in_order = losses_ordered n 0 callers 0 0 (inr (refl, omega arith));
    }
