-- Each step of the keeper keeps the rule: no seat changes, and no claim.
use Rattle.permit_ring.proofs.Names.{◌≡◌, ◌≢◌, ℕ, zero, suc, ◌+◌, ◌-◌, ◌%◌, ◌^◌, ◌<◌, ◌≤◌, true, false, eqb, List, [], ◌∷◌, set, length, drop, slice_index, sum, Option, Some, refl, sym, ◌∙◌, ap, ap₂, le_refl, mod-lt, arith, ⊎_elim, cases_eq, length_push, set-get_or, fold_push, at_set, at_longer, set_here, set_else, State, Act, Valid, step, keeps, takes, gives, chain, put_back, rest, carried_after, homes_after, Allows, SeatView, Step, See, Read, Offer, Sweep, Key, KeeperMemo, SeatMemo, Move, Slot, Offered, Finished, View, Keeps, hand_from, filled_then, AllAdmitted, found_at, is_of_seat, is_of_keeper, KeepsInHand, Known, IsWord, ready, saw_mark, read_word, tried_offer, swept_loss, words_of, StandsIn, AreSlots, Counts, IsSeatMemo, Runs, and_move, waits, reaps, reads, offers_all, misses, sweeps, Machine, HasSizes, opening, seat_at, mark_at, next, offered_to, IsRing, packed, small, see_takes_next, see_waits_next, offer_takes_next, offer_misses_next, word_packs, seen_packs, missed_field_falls, next_keeps, other_word, packed_apart, eq-eqb, ne_eqb, PermitWord, ◌++◌, get_elem?, some, none, add-mod_right, swept_of, loss_at, after, Maybe, next_of_possible, lt-ltb}
use prog.Atomic.{either}
use Rattle.permit_ring.proofs.HandLemmas.{ready_is}
use Rattle.permit_ring.proofs.ListLemmas.{at_end, at_length}
use Rattle.permit_ring.proofs.SeatSteps.{number_is, number_reads, read_back, word_packs_here}
use Rattle.permit_ring.proofs.Settled.{all_marks, not_over, settled, some_there, more_fronts}
use Rattle.permit_ring.proofs.States.{ring_of, sizes_of, over_few, one_turn_ahead, keeper_port, not_first, fates_stay, slots_stay, slots_set, leads_on, by_seat-on, by_keeper-on}

-- a ring's permit word is one of its sizes
is_word : {n limit : ℕ} {m : Machine} → IsRing m → HasSizes n limit m → m.word.over < limit → IsWord n limit m.word
is_word {m = m} ring sizes few = grind (arith, sizes, word_packs m ring, ring.permits, small m ring)

module _ {S : Type 0} where
  -- so many slots are given back, the first first
  abbrev gives_all : ℕ → Act S
  gives_all zero = keeps
  gives_all (suc j) = chain gives (gives_all j)

  gives_valid : (j : ℕ) (homes : List (Maybe S)) (hand : List (ℕ × S)) → Valid homes hand (gives_all j)
  gives_valid zero homes hand = tt
  gives_valid (suc j) homes hand = (tt, gives_valid j (put_back homes hand) (rest hand))

  -- the others stay in hand
  gives_rest : (j : ℕ) (hand : List (ℕ × S)) → carried_after hand (gives_all j) ≡ drop j hand
  gives_rest zero hand = refl
  gives_rest (suc zero) [] = refl
  gives_rest (suc (suc j)) [] = gives_rest (suc j) []
  gives_rest (suc j) (x ∷ hand) = gives_rest j hand

module _ {O D N : Type 0} {note : D → N} {Admits : O → Type 0} {n : ℕ} {fates : List (Option (ℕ × N))} where
  -- the slots after all that are filled again are given back
  slots_offered : (ys : List O) (vacant : ℕ) (m : Machine) {now : Machine} (homes : List (Maybe (Slot O D)))
      → now.reaped ≡ m.reaped → now.word.claimed ≡ m.word.claimed → now.offered ≡ m.offered + length ys
      → AllAdmitted Admits ys → m.reaped ≤ m.word.claimed → m.word.claimed ≤ m.offered → now.offered ≤ m.reaped + n
      → length fates ≡ m.word.claimed → AreSlots note Admits m fates n homes
      → AreSlots note Admits now fates n (homes_after homes (hand_from n m.offered (filled_then ys vacant)) (gives_all (length ys)))
  slots_offered [] vacant m homes reaped claimed offered all behind within room claims slots = slots_stay reaped claimed (omega arith) slots
  slots_offered (y ∷ ys) vacant m homes reaped claimed offered all behind within room claims slots =
      slots_offered ys vacant (record m { offered = suc m.offered }) (set homes (m.offered % n) (some (Offered y))) reaped claimed
      (omega arith) (λ j z e. all (suc j) z e) behind (omega arith) room claims
      (slots_set m.offered (some (Offered y)) (omega arith) slots (omega arith) (omega arith)
      (let low = λ (f : Option (ℕ × N)). at_length fates m.offered f in let first = all zero y refl in grind (arith, low, first))
      (λ t away from to. let is = slots.each t from to in search (arith, is)))

module _ {O D T N : Type 0} (note : D → N) (Ao : T → O → Type 0) (An : T → N → Type 0) (key : Key T) where
  -- what the keeper knows that makes a try
  pub record CanOffer (old new filled vacant : ℕ) (hand : List (ℕ × Slot O D)) (k : KeeperMemo N) : Type 0 where
    pub in_hand : KeepsInHand (Ao key.terms) key.positions k.offered filled vacant hand
    pub some_filled : 1 ≤ filled
    pub one_turn : k.offered + filled + vacant ≡ length k.notes + key.positions
    pub was : old ≡ packed key.limit k.seen
    pub becomes : new ≡ packed key.limit (offered_to k.seen filled)

  module _ {s : State (Slot O D) (View T N)} (r : Runs note Ao An key s) where
    -- what a step of the keeper does to the machine, and to what it knows: it moves no seat, and claims nothing
    record IsKeepers (step : Step) (found : ℕ) (now : Machine) (k : KeeperMemo N) : Type 0 where
      own : is_of_keeper step ≡ true
      no_seats : (i : ℕ) → is_of_seat i step ≡ false
      seats_stay : now.seats ≡ r.machine.seats
      claims_stay : now.word.claimed ≡ r.machine.word.claimed
      moved : k.moves ≡ and_move r.keeper.moves step found
      made_stays : k.made ≡ r.keeper.made
      back_stays : k.back ≡ r.keeper.back
      released_stay : k.released ≡ r.keeper.released
      fronts_stay : (g : ℕ) → StandsIn r.keeper.fronts g → StandsIn k.fronts g
      noted : (t : ℕ) (x : N) → get_elem? k.notes t ≡ some x → (i : ℕ) × (get_elem? r.fates t ≡ some (Some (i, x)))
      counts : Counts key.positions now k

    -- so it keeps the rule, where the words and the slots are those of the state after
    keeper_steps : (step : Step) {found : ℕ} {now : Machine} {k : KeeperMemo N} {words : List ℕ} {homes : List (Maybe (Slot O D))}
        → next r.machine step ≡ Some now → found ≡ found_at r.machine step → words ≡ words_of now
        → AreSlots note (Ao key.terms) now r.fates key.positions homes → IsKeepers step found now k
        → Runs note Ao An key record { words = words; homes = homes; views = set s.views 0 (Keeps key k) }
    keeper_steps step {found} {now} {k} {words} {homes} leads read told slots its =
        let then : List Move = and_move r.moves step (found_at r.machine step) in
        let others : (other : SeatMemo N) → IsSeatMemo r.machine r.moves r.fates r.keeper.fronts r.keeper.released r.keeper.made other
        → IsSeatMemo now then r.fates k.fronts k.released k.made other =
        λ other knew. grind (arith, its, by_seat-on) in
        record {
          sizes = r.sizes;
          machine = now;
          moves = then;
          reached = leads_on (opening key.positions key.limit) r.machine now r.moves step r.reached leads;
          words_are = told;
          fates = r.fates;
          keeper = k;
          are_fates = fates_stay (omega (arith, its.made_stays)) (λ i. ap (λ (l : List SeatView). (seat_at l i).held) its.seats_stay) its.claims_stay r.are_fates;
          are_slots = slots;
          keeper_there = set_here s.views 0 (Keeps key k) (at_length s.views 0 (Keeps key r.keeper) r.keeper_there);
          knows = grind (arith, its, r.knows, read, by_seat-on, by_keeper-on);
          owner = r.owner;
          each_view = λ port v e. let c = at_set s.views 0 port (Keeps key k) v e in grind (arith, c, r.each_view port v, others);
          each_seat = λ i was e.
              grind (arith, its.back_stays, r.each_seat i was, set_else s.views 0 (r.owner i) (Keeps key k), not_first r (r.owner i), others);
        }

  -- the steps of a token whose view is the keeper's
  module _ (slots id : ℕ) (me : Known O D T N) (keeper : KeeperMemo N) (keeps_it : me.0 ≡ Keeps key keeper) where
    -- its look at the mark of the next ticket: where it is finished its slot is taken, and else only the list of marks grows
    pub see_ready : (word : ℕ) → slots ≡ key.positions → word ≡ length keeper.notes % key.positions + 3
        → Allows (Runs note Ao An key) slots id me word (λ n. n) (saw_mark note An (step slots word 0 0 none) me)
    see_ready word wide e = rw keeps_it (λ s r _ at _.
        let p = keeper_port r at in
        let m : Machine = r.machine in
        let ring = ring_of r in
        let count = r.knows.counted.reaped_is in
        let here = rw (p.1, ← count, ← (sizes_of r).positions_are) at e in
        let place : word ≡ suc (suc (suc (m.reaped % m.positions))) = omega arith in
        let read : slice_index s.words word ≡ mark_at m.marks (m.reaped % m.positions) = rw (r.words_are, place) in
        let words = set-get_or s.words word 0 ∙ r.words_are in
        rw (p.0, p.1) (⊎_elim
        (λ hit.
        let over = (ring.marks (m.reaped % m.positions) (mod-lt m.reaped ring.sizes.some_position)).just_above m.reaped (omega arith) in
        let out = over.claimed_before in
        let x = some_there r.fates m.reaped (omega (arith, r.are_fates.each_claimed))
        (λ e. let o = r.are_fates.open_is_held m.reaped e in over.held_by_none o.0 o.1) in
        let home = (r.are_slots.each m.reaped (le_refl m.reaped) (omega (arith, r.sizes.some_position))).finished_home x.0.0 x.0.1 x.1 in
        let value : D = home.0 in
        let fate : get_elem? r.fates m.reaped ≡ some (Some (x.0.0, note value)) = rw home.1 x.1 in
        let account = ring.permits.account in
        let low = λ (f : Option (ℕ × N)). at_length r.fates (m.reaped + key.positions) f in
        let slots_now : AreSlots note (Ao key.terms) (record m { reaped = m.reaped + 1 }) r.fates key.positions (set s.homes (m.reaped % key.positions) none) =
        rw (← add-mod_right m.reaped key.positions) (slots_set (m.reaped + key.positions) none r.sizes.some_position r.are_slots (omega arith) (omega arith)
        (grind (arith, low, r.are_fates.each_claimed, one_turn_ahead r)) (λ t away from to. assumption (r.are_slots.each t (omega arith) (omega arith)))) in
        let noted : (t : ℕ) (y : N) → get_elem? (r.keeper.notes ++ note value ∷ []) t ≡ some y → (i : ℕ) × (get_elem? r.fates t ≡ some (Some (i, y))) =
        λ t y e. ⊎_elim (r.knows.noted t y) (λ new. (x.0.0, cc (new.0, new.1, count, fate))) (at_end r.keeper.notes (note value) y t e) in
        let reaped : m.reaped + 1 ≡ length (r.keeper.notes ++ note value ∷ []) = omega (arith, length_push r.keeper.notes (note value)) in
        let home_place : length r.keeper.notes % slots ≡ m.reaped % key.positions = ap₂ ◌%◌ (sym count) wide in
        let admitted = (r.are_fates.finished m.reaped x.0.0 (note value) fate).1 in
        let claimed = (small m ring).claimed in (
          Keeps key (reaps (slice_index s.words word) (note value) r.keeper),
          takes (length r.keeper.notes % slots) (Finished value),
          ap (get_elem? s.homes) home_place ∙ home.2,
          keeper_steps r See (see_takes_next m (omega arith)) read words (rw home_place slots_now) (assumption (reaped, noted)),
          ((λ _. (value, admitted, refl, omega arith, omega arith, not_over r x.0.0 (note value) fate)), λ miss. absurd (miss hit)),
        ))
        (λ miss.
        let other : mark_at m.marks (m.reaped % m.positions) ≢ m.reaped + 1 = λ hit. miss (omega arith) in
        let k : KeeperMemo N = waits (slice_index s.words word) r.keeper in
        let runs = keeper_steps r See {k = k} (see_waits_next m other) read words r.are_slots (assumption) in
        (Keeps key k, keeps, tt, runs, ((λ hit. absurd (miss hit)), λ _. (refl, λ back. search (settled r (slice_index s.words word) other back)))))
        (cases_eq (slice_index s.words word) (length r.keeper.notes + 1))))

    -- its look at the permit word: only the word that it knows changes
    pub read_ready : Allows (Runs note Ao An key) slots id me 0 (λ n. n) (read_word (step slots 0 0 0 none) me)
    read_ready = rw keeps_it (λ s r _ at _.
        let p = keeper_port r at in
        let words = set-get_or s.words 0 0 ∙ r.words_are in
        let k : KeeperMemo N = reads key.limit r.machine.word r.keeper in
        let counted = r.knows.counted in
        let runs = keeper_steps r Read {found = packed key.limit r.machine.word} {k = k} (next_of_possible r.machine Read refl) (cc ((sizes_of r).limit_is)) words (slots_stay refl refl refl r.are_slots) (assumption) in
        rw (p.0, p.1, read_back r) (Keeps key k, keeps, tt, runs, (number_reads r, refl, is_word (ring_of r) (sizes_of r) (over_few r), omega (arith, (ring_of r).permits))))

    -- its sweep of a kind of loss
    pub sweep_ready : (kind : ℕ) → kind < 2 → Allows (Runs note Ao An key) slots id me (kind + 1) (λ _. 0)
        (swept_loss (step slots (kind + 1) 0 0 none) me)
    sweep_ready kind low = rw keeps_it (λ s r _ at _.
        let p = keeper_port r at in
        let m : Machine = r.machine in
        let found : ℕ = slice_index s.words (kind + 1) in
        let read : found ≡ (loss_at m kind).value = grind (arith, r.words_are) in
        let k : KeeperMemo N = sweeps kind found r.keeper in
        let words : set s.words (kind + 1) 0 ≡ words_of (after m (Sweep kind)) = grind (arith, r.words_are) in
        let more = fold_push ◌+◌ 0 (swept_of kind r.keeper) found in
        let its : IsKeepers r (Sweep kind) found (after m (Sweep kind)) k = grind (arith, more, r.knows) in
        let runs = keeper_steps r (Sweep kind) {k = k} (next_of_possible m (Sweep kind) (lt-ltb kind 2 low)) read words
        (slots_stay (grind arith) (grind arith) (grind arith) r.are_slots) its in
        let few : sum (swept_of kind k) ≤ 2 ^ 45 = grind (arith, small m (ring_of r), (ring_of r).loss0, (ring_of r).loss1, more, read, r.knows.counted) in
        let one : kind + 1 - 1 ≡ kind = omega arith in
        rw (p.0, p.1, one) (Keeps key k, keeps, tt, runs, (refl, few, λ back. grind (arith, all_marks r back kind low, more, read, r.knows.counted))))

    -- and its try to offer what is filled: all slots that are filled again are given back, or another word was found
    pub offer_ready : (old new filled vacant : ℕ) → CanOffer old new filled vacant me.1 keeper
        → Allows (Runs note Ao An key) slots id me 0 (λ n. either (eqb n old) new n) (tried_offer (step slots 0 old new none) me)
    offer_ready old new filled vacant may = rw keeps_it (λ s r _ at _.
        let p = keeper_port r at in
        let can = rw p.1 at may in
        let its = can.in_hand in
        let m : Machine = r.machine in
        let count : ℕ = ready me.1 in
        let ring = ring_of r in
        let counted = r.knows.counted in
        let limit = (sizes_of r).limit_is in
        let room : (1 ≤ count) × (m.offered + count ≤ m.reaped + m.positions) = grind (arith, can, sizes_of r, counted, ready_is its) in
        rw (p.0, p.1) (⊎_elim
        (λ hit.
        let read = sym (number_is r) ∙ hit ∙ can.was ∙ ap (packed key.limit) (sym counted.seen_is) in
        let same : m.word ≡ m.seen = packed_apart key.limit m.word m.seen (omega (arith, r.sizes.most_seats)) (word_packs_here r)
        (rw limit at (seen_packs m ring)) read in
        let word : m.word ≡ r.keeper.seen = same ∙ counted.seen_is in
        let leads = offer_takes_next m count room.0 room.1 same in
        let now : Machine = record m { word = offered_to m.word count; offered = m.offered + count; seen = offered_to m.word count } in
        let left = is_word {m = now} (rw leads at (next_keeps m ring (Offer count)))
        (record { positions_are = (sizes_of r).positions_are; limit_is = limit }) r.sizes.some_seat in
        let long : count ≡ length its.values = ready_is its ∙ sym its.filled_are in
        let k : KeeperMemo N = offers_all key.limit count r.keeper in
        let first = at_longer r.keeper.fronts (k.offered ∷ []) 0 key.positions counted.first_front in
        let words : set s.words 0 new ≡ words_of now = rw (r.words_are, can.becomes, limit, word, ready_is its) in
        let offered = ap (λ (o : ℕ). o + count) counted.offered_is in
        let last : (earlier : List ℕ) × (k.fronts ≡ earlier ++ k.offered ∷ []) = (r.keeper.fronts, refl) in
        let seen = ap (λ (w : PermitWord). offered_to w count) word in
        let runs = keeper_steps r (Offer count) {k = k} leads (ap₂ packed (sym limit) (sym word)) words
        (rw (long, its.in_hand, ← counted.offered_is) (slots_offered its.values vacant m s.homes refl refl refl its.admitted
        ring.permits.reaped_claimed (omega (arith, ring.permits.account)) (omega arith) r.are_fates.each_claimed r.are_slots))
        (assumption (offered, first, last, seen, more_fronts r.keeper.fronts k.offered)) in
        let valid = gives_valid count s.homes me.1 in
        let rest = gives_rest count me.1 in
        rw (eq-eqb (slice_index s.words 0) old hit)
        (Keeps key k, gives_all count, valid, runs, ((λ _. (rw rest refl, rw word at left)), λ miss. absurd (miss hit))))
        (λ miss.
        let other : m.word ≢ m.seen = λ same. miss (number_is r ∙ ap (packed key.limit) (same ∙ counted.seen_is) ∙ sym can.was) in
        let falls = rw (limit, counted.seen_is) at (missed_field_falls m ring (other_word m.word m.seen other)) in
        let k : KeeperMemo N = misses key.limit count m.word r.keeper in
        let runs = keeper_steps r (Offer count) {found = packed key.limit m.word} {k = k} (offer_misses_next m count room.0 room.1 other) (cc limit)
        (set-get_or s.words 0 0 ∙ r.words_are) (slots_stay refl refl refl r.are_slots) (assumption) in
        rw (ne_eqb (slice_index s.words 0) old miss, read_back r)
        (Keeps key k, keeps, tt, runs, ((λ hit. absurd (miss hit)), λ _. (number_reads r, refl, is_word ring (sizes_of r) (over_few r), falls))))
        (cases_eq (slice_index s.words 0) old)))
