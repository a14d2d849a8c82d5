-- Each step of a seat keeps the rule.
use Rattle.permit_ring.proofs.Names.{◌≡◌, ◌≢◌, ℕ, suc, ◌+◌, ◌%◌, ◌^◌, ◌<◌, ◌≤◌, ◌==◌, true, false, List, [], ◌∷◌, ◌++◌, set, length, Option, Some, None, refl, sym, inl, inr, ◌∙◌, ap, slice_index, arith, ⊎_elim, le_refl, eq-eqb, ne_eqb, cases_lt, lt-ltb, le-ltb, length-set, length_push, at_last, at_longer, at_set, at_snoc, set_else, set_here, State, step, keeps, takes, gives, Allows, Step, Look, Claim, Finish, Mark, Key, Move, Lost, Got, SeatMemo, Slot, Offered, Finished, View, Sits, IsOrdered, end_from, got_of, taken_by, found_at, is_of_seat, is_of_keeper, Known, saw_word, claimed_word, marked_loss, finished_value, words_of, StandsIn, SeesRests, GoesOn, append_assoc, AreFates, AreSlots, Counts, IsSeatMemo, Runs, Outcome, RisesFrom, append-nil, and_move, and_lost, looks, claims, adds_mark, finishes, Machine, opening, possible, after, served, is_idle, looked, seat_at, marks_of, marked, Holds, packed, unpacked, IsPackable, IsReadable, small, word_packs, all_claimed, armed_leaves_field, after_keeps, next_of_possible, idle_parts, live_is_made, seat_at-here, seat_at-else, holders_stay, unpacked-packed, packed-claimed, get_elem?, some, none, Maybe}
use Rattle.permit_ring.proofs.LogLemmas.{taken-open, taken-else, taken-own, rises_on, sees_on, end_on, got_of-append}
use Rattle.permit_ring.proofs.ListLemmas.{at_end, at_length}
use Rattle.permit_ring.proofs.States.{ring_of, sizes_of, one_turn_ahead, not_first, seated, fates_stay, slots_stay, slots_set, leads_on, by_seat-on, by_keeper-on}

-- a memo goes on with more calls
more_calls : {N : Type 0} {was memo new : SeatMemo N} → GoesOn was memo → (calls : List (Outcome N)) → new.log ≡ memo.log ++ calls → new.rests ≡ memo.rests
    → GoesOn was new
more_calls {was = was} on calls more same = record {
  calls = on.calls ++ calls;
  log_is = more ∙ ap (λ log. log ++ calls) on.log_is ∙ append_assoc was.log on.calls calls;
  rests = on.rests;
  rests_are = same ∙ on.rests_are;
}

module _ {O D T N : Type 0} {note : D → N} {Ao : T → O → Type 0} {An : T → N → Type 0} {key : Key T} {s : State (Slot O D) (View T N)}
    (r : Runs note Ao An key s) where
  pub word_packs_here : IsPackable key.limit r.machine.word
  word_packs_here = rw (sizes_of r).limit_is at (word_packs r.machine (ring_of r))

  -- word 0 is the machine's
  pub number_is : slice_index s.words 0 ≡ packed key.limit r.machine.word
  number_is = ap (λ (ws : List ℕ). slice_index ws 0) r.words_are ∙ ap (λ (k : ℕ). packed k r.machine.word) (sizes_of r).limit_is

  pub read_back : unpacked key.limit (slice_index s.words 0) ≡ r.machine.word
  read_back = rw number_is (unpacked-packed key.limit r.machine.word (omega (arith, r.sizes.most_seats)) word_packs_here)

  pub number_reads : IsReadable key.limit (slice_index s.words 0)
  number_reads = rw number_is (omega (arith, word_packs_here))

  -- what a step of a seat makes of the machine, of the fates and of the seat's memo
  record IsStepTo (memo : SeatMemo N) (step : Step) (later : List (Option (ℕ × N))) (new : SeatMemo N) : Type 0 where
    its_alone : ((j : ℕ) → is_of_seat j step ≡ (j == memo.number)) × (is_of_keeper step ≡ false)
    possible_here : possible r.machine step ≡ true
    seats_are : (after r.machine step).seats ≡ set r.machine.seats memo.number new.view
    same : (new.number ≡ memo.number) × (new.view.live ≡ memo.view.live) × (new.rests ≡ memo.rests)
    moved : new.moves ≡ and_move memo.moves step (found_at r.machine step)
    counts : Counts key.positions (after r.machine step) r.keeper
    claims_grow : r.machine.word.claimed ≤ (after r.machine step).word.claimed
    are_fates : AreFates (after r.machine step) (An key.terms) r.keeper.made later
    fates_on : (t j : ℕ) (x : N) → get_elem? r.fates t ≡ some (Some (j, x)) → get_elem? later t ≡ some (Some (j, x))
    others_took : (j : ℕ) → j ≢ memo.number → taken_by j 0 later ≡ taken_by j 0 r.fates
    ordered : IsOrdered new
    log_on : (calls : List (Outcome N)) × (new.log ≡ memo.log ++ calls)
    below_claims : end_from 0 new.log ≤ r.machine.word.claimed
    got : got_of new.log ≡ taken_by memo.number 0 later
    at_front : (j g : ℕ) → get_elem? new.log j ≡ some (Lost g) → StandsIn r.keeper.fronts g

  module _ (id : ℕ) {memo : SeatMemo N} (at : get_elem? s.views id ≡ some (Sits key memo)) where
    its : IsSeatMemo r.machine r.moves r.fates r.keeper.fronts r.keeper.released r.keeper.made memo
    its = (seated r id at).2

    made_there : memo.number < length r.machine.seats
    made_there = live_is_made r.machine.seats memo.number (rw its.shows at (seated r id at).1)

    -- a step of a seat keeps the rule, where words and slots are those of the state after
    seat_runs : {step : Step} {later : List (Option (ℕ × N))} {new : SeatMemo N} {words : List ℕ} {homes : List (Maybe (Slot O D))}
        → IsStepTo memo step later new → words ≡ words_of (after r.machine step)
        → AreSlots note (Ao key.terms) (after r.machine step) later key.positions homes
        → Runs note Ao An key record { words = words; homes = homes; views = set s.views id (Sits key new) }
    seat_runs {step} {later} {new} {words} {homes} to told slots =
        let moves : List Move = and_move r.moves step (found_at r.machine step) in
        let on : (p : ℕ) (was : SeatMemo N) → get_elem? r.keeper.released p ≡ some was → was.number ≡ new.number → GoesOn was new =
        λ p was e same. more_calls (its.goes_on p was e (same ∙ to.same.0)) to.log_on.0 to.log_on.1 to.same.2 in
        let mine : IsSeatMemo (after r.machine step) moves later r.keeper.fronts r.keeper.released r.keeper.made new =
        grind (arith, its, to, on, r.knows.counted, eq-eqb, made_there, by_seat-on, seat_at-here) in
        let others : (other : SeatMemo N) → other.number ≢ memo.number
        → IsSeatMemo r.machine r.moves r.fates r.keeper.fronts r.keeper.released r.keeper.made other
        → IsSeatMemo (after r.machine step) moves later r.keeper.fronts r.keeper.released r.keeper.made other =
        λ other away knew. grind (arith, to, r.knows.counted, knew, ne_eqb, made_there, by_seat-on, seat_at-else) in
        record {
          sizes = r.sizes;
          machine = after r.machine step;
          moves = moves;
          reached = leads_on (opening key.positions key.limit) r.machine (after r.machine step) r.moves step r.reached
              (next_of_possible r.machine step to.possible_here);
          words_are = told;
          fates = later;
          keeper = r.keeper;
          are_fates = to.are_fates;
          are_slots = slots;
          keeper_there = set_else s.views id 0 (Sits key new) (λ e. not_first r id at (sym e)) ∙ r.keeper_there;
          knows = grind (arith, r.knows, its.is_made, to, ne_eqb, by_seat-on, by_keeper-on, length-set);
          owner = r.owner;
          each_view = λ port v e.
              grind (arith, at_set s.views id port (Sits key new) v e, r.each_view port v, seated r id at, to.same, mine, others);
          each_seat = λ i back e.
              let placed = set_here s.views id (Sits key new) (at_length s.views id (Sits key memo) at) in
              grind (arith, r.each_seat i back, set_else s.views id (r.owner i) (Sits key new), placed, at, to.same, others, seated r id at);
        }

    -- the log after a step that read the word is in order
    order_now : RisesFrom 0 (and_lost r.machine.word memo.log) × (end_from 0 (and_lost r.machine.word memo.log) ≤ r.machine.word.claimed)
        × (got_of (and_lost r.machine.word memo.log) ≡ got_of memo.log)
        × ((j g : ℕ) → get_elem? (and_lost r.machine.word memo.log) j ≡ some (Lost g) → StandsIn r.keeper.fronts g)
        × SeesRests memo.rests (and_lost r.machine.word memo.log)
        × ((calls : List (Outcome N)) × (and_lost r.machine.word memo.log ≡ memo.log ++ calls))
    order_now =
        -- where none is free, the number of claims is the last front
        let front : r.machine.word.free ≡ 0 → StandsIn r.keeper.fronts r.machine.word.claimed =
        λ full. let earlier = r.knows.counted.last_front in
        let there = at_last earlier.0 r.keeper.offered (length earlier.0) refl in
        (length earlier.0, cc (earlier.1, all_claimed r.machine (ring_of r) full, r.knows.counted.offered_is)) in
        let call : Outcome N = Lost r.machine.word.claimed in
        let on = rises_on 0 memo.log call its.ordered.rises its.below_claims in
        let last = λ (j g : ℕ). at_snoc memo.log call (Lost g) j in
        let sees : r.machine.word.free ≡ 0 → SeesRests memo.rests (memo.log ++ call ∷ []) = λ full. sees_on memo.rests memo.log call its.ordered.sees
        (λ l g rest at e. let known = its.rested l rest at in let all = all_claimed r.machine (ring_of r) full in grind (arith, e)) in
        let more : (calls : List (Outcome N)) × (and_lost r.machine.word memo.log ≡ memo.log ++ calls) = elim (cases_lt 0 r.machine.word.free) [
          | inl free ↦ ([], rw (lt-ltb 0 r.machine.word.free free) (sym (append-nil memo.log)))
          | inr past ↦ (call ∷ [], rw (le-ltb 0 r.machine.word.free past) refl)
        ] in
        grind (arith, its, on, sees, more, append-nil (got_of memo.log), end_on 0 memo.log call, got_of-append memo.log (call ∷ []))

    -- a claim of an armed seat
    module _ (armed : memo.view.armed ≡ true) where
      no_ticket : memo.view.held ≡ None
      no_ticket = rw its.shows (((ring_of r).seats.each memo.number).armed_holds_none (rw its.shows at armed))

      -- the word after the claim
      claim_told : set s.words 0 ((slice_index s.words 0 + 65535) % 2 ^ 64) ≡ words_of (after r.machine (Claim memo.number))
      claim_told =
          let packs = word_packs (after r.machine (Claim memo.number)) (after_keeps r.machine (ring_of r) (Claim memo.number) (rw its.shows at armed)) in
          let left = armed_leaves_field r.machine (ring_of r) memo.number (rw its.shows at armed) in
          let sum = packed-claimed r.machine.limit r.machine.word (ring_of r).permits.either left in
          grind (arith, r.words_are, sum, packs)

      claim_step : {later : List (Option (ℕ × N))} → AreFates (after r.machine (Claim memo.number)) (An key.terms) r.keeper.made later
          → ((t j : ℕ) (x : N) → get_elem? r.fates t ≡ some (Some (j, x)) → get_elem? later t ≡ some (Some (j, x)))
          → ((j : ℕ) → taken_by j 0 later ≡ taken_by j 0 r.fates)
          → IsStepTo memo (Claim memo.number) later (claims key.limit r.machine.word memo)
      claim_step fates on took =
          grind (arith, its, order_now, no_ticket, sizes_of r, length_push memo.log (Lost r.machine.word.claimed))

-- the steps of a token whose view is a seat's
module _ {O D T N : Type 0} (note : D → N) (Ao : T → O → Type 0) (An : T → N → Type 0) (key : Key T) (slots id : ℕ) (me : Known O D T N)
    (memo : SeatMemo N) (sits : me.0 ≡ Sits key memo) where
  -- a look of an idle seat: one call more, which is decided where none is free
  pub look_ready : is_idle memo.view ≡ true → memo.view.calls < 2 ^ 40
      → Allows (Runs note Ao An key) slots id me 0 (λ n. n) (saw_word (step slots 0 0 0 none) me)
  look_ready idle few = rw sits (λ s r _ at _.
      let m : Machine = r.machine in
      let same = holders_stay m.seats memo.number (looked m.word (seat_at m.seats memo.number)) (made_there r id at) refl in
      let to : IsStepTo r memo (Look memo.number) r.fates (looks key.limit m.word memo) =
      grind (arith, its r id at, order_now r id at, idle_parts memo.view idle, sizes_of r, length_push memo.log (Lost m.word.claimed)) in
      rw (read_back r) (
        Sits key (looks key.limit m.word memo),
        keeps,
        tt,
        seat_runs r id at to (rw r.words_are) (slots_stay refl refl refl r.are_slots),
        (number_reads r, refl, to.ordered, (small m (ring_of r)).claimed),
      ))

  pub claim_ready : slots ≡ key.positions → memo.view.armed ≡ true
      → Allows (Runs note Ao An key) slots id me 0 (λ n. (n + 65535) % 2 ^ 64) (claimed_word Ao (step slots 0 65535 0 none) me)
  claim_ready same armed = rw sits (λ s r _ at _.
      let m : Machine = r.machine in
      let t : ℕ = m.word.claimed in
      let permits = (ring_of r).permits in
      let made = made_there r id at in
      let told = claim_told r id at armed in
      -- where a position is free, the seat holds the next ticket, and where none is, its call is lost
      rw (read_back r) (⊎_elim
      (λ free.
      let next : (t < m.offered) × (t < m.reaped + key.positions) = omega (arith, permits.account, one_turn_ahead r) in
      let more : (after m (Claim memo.number)).word.claimed ≡ t + 1 = simp (lt-ltb 0 m.word.free free) in
      let last = at_last r.fates None in
      let ends = at_end r.fates None in
      let here = seat_at-here m.seats memo.number (served m.word (seat_at m.seats memo.number)) made in
      let else = seat_at-else m.seats memo.number (served m.word (seat_at m.seats memo.number)) made in
      let old = λ (u : ℕ). at_longer r.fates (None ∷ []) u None in
      let fates : AreFates (after m (Claim memo.number)) (An key.terms) r.keeper.made (r.fates ++ None ∷ []) =
      grind (arith, its r id at, no_ticket r id at armed, length_push r.fates None) in
      let to = claim_step r id at armed fates (λ u j x e. at_longer r.fates (None ∷ []) u (Some (j, x)) e) (λ j. taken-open j 0 r.fates) in
      let home = (r.are_slots.each t permits.reaped_claimed next.1).offered_home (le_refl t) next.0 in (
        Sits key (claims key.limit m.word memo),
        takes (t % key.positions) (Offered home.0),
        home.2,
        seat_runs r id at to told (slots_set t none r.sizes.some_position r.are_slots permits.reaped_claimed next.1
            (grind (arith, last t r.are_fates.each_claimed, more))
            (λ u away from to. let is = r.are_slots.each u from to in grind (arith, is, away, from, more, r.are_fates.each_claimed, ends))),
        grind (arith, number_reads r, home, same, free, to.ordered, small m (ring_of r)),
      ))
      (λ past.
      let full : m.word.free ≡ 0 = omega arith in
      let none_more = le-ltb 0 m.word.free (omega arith) in
      let holders = holders_stay m.seats memo.number (served m.word (seat_at m.seats memo.number)) made (simp none_more) in
      let to = claim_step r id at armed (fates_stay (le_refl r.keeper.made) holders (simp none_more) r.are_fates) (λ u j x e. e) (λ j. refl) in (
        Sits key (claims key.limit m.word memo),
        keeps,
        tt,
        seat_runs r id at to told (slots_stay refl (simp none_more) refl r.are_slots),
        grind (arith, number_reads r, full, to.ordered, small m (ring_of r)),
      ))
      (cases_lt 0 m.word.free)))

  -- a mark of a kind of loss
  pub mark_ready : (kind : ℕ) → kind < 2 → marks_of memo.view kind < 2 ^ 40
      → Allows (Runs note Ao An key) slots id me (kind + 1) (λ n. (n + 1) % 2 ^ 64) (marked_loss (step slots (kind + 1) 1 0 none) me)
  mark_ready kind low few = rw sits (λ s r _ at _.
      let m : Machine = r.machine in
      let holders = holders_stay m.seats memo.number (marked kind (seat_at m.seats memo.number)) (made_there r id at) in
      let none : (calls : List (Outcome N)) × (memo.log ≡ memo.log ++ calls) = ([], sym (append-nil memo.log)) in
      let to : IsStepTo r memo (Mark memo.number kind) r.fates (adds_mark kind (slice_index s.words (kind + 1)) memo) =
      grind (arith, none, its r id at, small m (ring_of r), r.words_are, (seated r id at).1, lt-ltb, holders) in
      let told : set s.words (kind + 1) ((slice_index s.words (kind + 1) + 1) % 2 ^ 64) ≡ words_of (after m (Mark memo.number kind)) =
      grind (arith, r.words_are, small m (ring_of r)) in (
        Sits key (adds_mark kind (slice_index s.words (kind + 1)) memo),
        keeps,
        tt,
        seat_runs r id at to told (slots_stay (grind arith) (grind arith) (grind arith) r.are_slots),
        grind (arith, to.ordered),
      ))

  -- a finish of a token that has just put a value into its slot
  pub finish_ready : {new : Known O D T N} {n t place : ℕ} {d : D} {others : List (ℕ × Slot O D)}
      → new ≡ (me.0, (place, Finished d) ∷ others) → place ≡ t % n → key.positions ≡ n → Holds memo.view t → An key.terms (note d)
      → Allows (Runs note Ao An key) slots id new (place + 3) (λ _. t + 1) (λ _. finished_value note (step slots (place + 3) (t + 1) 0 none) new (t + 1))
  finish_ready {t = t} {d = d} is here same holds admitted = rw (is, here, ← same, sits) (λ s r _ at _.
      let m : Machine = r.machine in
      let knows = its r id at in
      let made = made_there r id at in
      let held = rw knows.shows at holds in
      let out = ((ring_of r).seats.each memo.number).held_is_out t held in
      let open_now = r.are_fates.held_is_open memo.number t held in
      let account = (ring_of r).permits.account in
      -- what became of the ticket
      let fate : Option (ℕ × N) = Some (memo.number, note d) in
      let later : List (Option (ℕ × N)) = set r.fates t fate in
      let set_there = set_here r.fates t fate (at_length r.fates t None open_now) in
      let set_away = set_else r.fates t in
      let call = Got t (note d) in
      let after_log : end_from 0 memo.log ≤ t = knows.ordered.below_ticket t holds in
      let here = seat_at-here m.seats memo.number (record (seat_at m.seats memo.number) { held = None }) made in
      let else = seat_at-else m.seats memo.number (record (seat_at m.seats memo.number) { held = None }) made in
      let alone = λ (j : ℕ) (h : Holds (seat_at m.seats j) t). (ring_of r).seats.apart j memo.number t h held in
      let fates : AreFates (after m (Finish memo.number)) (An key.terms) r.keeper.made later =
      grind (arith, knows, held, length-set r.fates t fate, at_set r.fates t) in
      let rises = rises_on 0 memo.log call knows.ordered.rises after_log in
      let own = taken-own memo.number t (note d) r.fates memo.log knows.ordered.rises after_log knows.got open_now in
      let others = λ (j : ℕ) (other : j ≢ memo.number). taken-else j memo.number 0 (note d) r.fates t other open_now in
      let last = λ (j g : ℕ). at_snoc memo.log call (Lost g) j in
      let sees = sees_on memo.rests memo.log call knows.ordered.sees (λ l g rest at e. grind (arith, e)) in
      let more : (calls : List (Outcome N)) × (memo.log ++ call ∷ [] ≡ memo.log ++ calls) = (call ∷ [], refl) in
      let to : IsStepTo r memo (Finish memo.number) later (finishes (note d) memo) =
      grind (arith, more, knows, held, out, no_ticket r id at, got_of-append memo.log (call ∷ []), end_on 0 memo.log call, length_push memo.log call) in
      let three : t % key.positions + 3 ≡ suc (suc (suc (t % key.positions))) = omega arith in (
        Sits key (finishes (note d) memo),
        gives,
        tt,
        seat_runs r id at to (rw (r.words_are, three, ← (sizes_of r).positions_are, held)) (slots_set t (some (Finished d))
            r.sizes.some_position r.are_slots out.0 (omega (arith, one_turn_ahead r)) (grind (arith, set_there, out, account))
            (λ u away from to. let is = r.are_slots.each u from to in grind (arith, is, set_away u fate away))),
        (refl, to.ordered),
      ))
