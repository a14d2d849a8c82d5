-- What a closed desk makes of a history.
use Rattle.law_closing.proofs.Names.{Item, some, asks_back, desk_memo, Act, Got, Outcome, PassMemo, call_of, calls_in, fate_of, decided_on, AreAllBack, class_at, AreDecided, entries_by, IsSettledLog, entries_from, get_elem?, at_map, get_or_past, length-map, ◌≡◌, ℕ, true≢false, Option, None, List, [], length, map, refl, sym, ap, ◌∙◌, arith, inl, inr, Classes, some_there, at_length, there, Parts, AreSettled, sizes_in, HaveAllCalls, StandInOneOrder, came, calls_by, fates_in, ClosedDesk, GiversHaveNumbers, HaveNumbers, plain_item, some-injective, IsWholeCaller}
use Rattle.std.proofs.lemmas.Bool.{cases_lt}
use Rattle.ids_types.specs.{entries_of}
use Rattle.history_spec.specs.Decided.{fates_of}
use Rattle.history_spec.specs.Follows.{Follows}
use Rattle.history_spec.proofs.ContextLemmas.{legal_contexts}
use Rattle.history_spec.proofs.DecidedLemmas.{are_merged}
use Rattle.history_spec.proofs.FrontLemmas.{front_was}
use Rattle.buffer_classes.specs.declared.giver.Giver.{Giver}
use Rattle.buffer_classes.specs.{AreGiversOf, givers_of, giver_memo}
use Rattle.buffer_classes.specs.declared.givers.Givers.{Givers}
use Rattle.buffer_classes.proofs.AskLemmas.{below_or, nothing_past}
use Rattle.permit_ring.specs.{ended, new_memo}
use Rattle.report_api.proofs.TiedLemmas.{claimants_back}
use Rattle.report_queue.proofs.{at_map_back}
use Rattle.law_closing.proofs.EntryLemmas.{call_of_ticket, no_items, whole_as}
use Rattle.law_closing.proofs.PlaceLemmas.{first_front, or_at}
use Rattle.law_closing.proofs.FateLemmas.{claimed_none, whole_settled}

-- the ring of class i has the number of its giver
pub rings_have : (config : Parts) (classes : Classes) (givers : Givers) → AreGiversOf classes givers
    → GiversHaveNumbers config (givers_of givers) → HaveNumbers config classes
rings_have config classes givers are numbers i class at =
    let giver = there (givers_of givers) i (omega (arith, are.all, at_length classes.classes.items i class at)) in
    grind (arith, are.each i class giver.0 at giver.1, numbers i giver.0 giver.1)

module _ (closed : ClosedDesk) where
  abbrev givers : List Giver
  givers = givers_of closed.desk.givers

  abbrev back : List (Option PassMemo)
  back = (desk_memo closed.desk).back

  abbrev items : List (Item Act)
  items = (desk_memo closed.desk).notes

  all_back : AreAllBack (desk_memo closed.desk)
  all_back caller its here = let pass = at_map_back came closed.passes caller its (rw closed.are_back at here) in rw (← pass.2) refl

  -- what became of the calls of a caller: of its pass, or of none
  record Knows (caller : ℕ) : Type 0 where
    memo : PassMemo
    calls : calls_by closed.passes caller ≡ calls_in memo.log
    fates : fates_of (map fates_in closed.passes) caller ≡ map fate_of memo.log
    stands : (j : ℕ) (r : Outcome) → get_elem? memo.log j ≡ some r
        → (pass : PassMemo) × (get_elem? closed.passes caller ≡ some pass) × (get_elem? pass.log j ≡ some r)
    whole : IsWholeCaller (desk_memo closed.desk).fronts items caller memo
    follows : (i : ℕ) → Follows (sizes_in closed.config) i (calls_in memo.log) (asks_back givers caller i)

  knows : (caller : ℕ) → Knows caller
  knows caller =
      let as_long : length back ≡ length closed.passes = ap length closed.are_back ∙ length-map closed.passes came in
      elim (below_or closed.passes caller) [
        | inl pass ↦
            let is_back : get_elem? back caller ≡ some (came pass.0) = rw closed.are_back (at_map came closed.passes caller pass.0 pass.1) in
            record {
              memo = ended pass.0;
              calls = or_at _ caller [] _ (at_map (λ (pass : PassMemo). calls_in pass.log) closed.passes caller pass.0 pass.1);
              fates = or_at _ caller [] _ (at_map fates_in closed.passes caller pass.0 pass.1);
              stands = λ j r at. (pass.0, pass.1, at);
              whole = closed.all_taken.whole caller (ended pass.0) is_back;
              follows = λ i. rw (← closed.made_for.sizes) (closed.is_desk.tied.follows i caller (ended pass.0) is_back);
            }
        | inr past ↦ record {
          memo = new_memo caller;
          calls = get_or_past _ caller [] (omega (arith, past, length-map closed.passes (λ (pass : PassMemo). calls_in pass.log)));
          fates = get_or_past _ caller [] (omega (arith, past, length-map closed.passes fates_in));
          stands = λ j r at. cc;
          whole =
              let none = no_items caller 0 items (λ j item at is. omega (arith, closed.all_taken.of_callers j item at, as_long, past, is)) in
              grind (arith, none);
          follows = λ i. elim (below_or givers i) [
            | inl giver ↦
                let none = nothing_past (giver_memo giver.0).back caller (omega (arith, closed.is_desk.tied.as_many i giver.0 giver.1, as_long, past)) in
                rw (giver.1, none) refl
            | inr beyond ↦ rw (nothing_past givers i beyond) refl
          ];
        }
      ]

  entries_are : (caller : ℕ) → entries_by caller (entries_of closed.turns) ≡ entries_from caller 0 (calls_by closed.passes caller)
  entries_are caller = let its = knows caller in rw (closed.shows, its.calls) (whole_as caller its.memo.log items its.whole.names its.whole.accepted).0

  -- the seats of the tickets of class i, with what all callers asked of it
  settled_at : (i : ℕ) → (claimants : List ℕ)
      × ((caller : ℕ) → IsSettledLog (class_at closed.config i).number claimants caller (asks_back givers caller i))
  settled_at i = elim (below_or givers i) [
    | inl found ↦
        let giver = found.0 in
        let its = closed.settled i giver found.1 in
        let class = there closed.shared.classes.classes.items i (omega (arith, closed.is_desk.givers.all, at_length givers i giver found.1)) in
        let mine = closed.is_desk.givers.each i class.0 giver class.1 found.1 in
        let number = (closed.made_for.numbers i class.0 class.1).0 in (
          map (λ x. x.0) its.taken,
          λ caller. rw found.1 (elim (cases_lt caller (length (giver_memo giver).back)) [
            | inl low ↦
                let memo = some_there (giver_memo giver).back caller low
                (λ none. true≢false (sym (claimants_back closed.is_desk.tied all_back i giver found.1 caller None none))) in
                rw memo.1 (whole_settled (its.logs_are caller memo.0 memo.1)
                (λ j front stands. omega (arith, mine.fronts_from j front stands, mine.number_is, number)))
            | inr past ↦ rw (nothing_past (giver_memo giver).back caller past)
                (let none = claimed_none caller 0 its.taken (λ t x taken is. omega (arith, its.seats_are t x.0 x.1 taken, mine.made_are, past, is)) in grind (arith, none))
          ]),
        )
    | inr past ↦ ([], λ caller. rw (nothing_past givers i past) (grind arith))
  ]

  -- the classes are settled
  pub settled_classes : (claimants : ℕ → List ℕ) × AreSettled closed.config closed.turns (calls_by closed.passes) (asks_back givers) claimants
  settled_classes = (
    λ i. (settled_at i).0,
    record {
      follows = λ caller i. let its = knows caller in rw its.calls (its.follows i);
      settled = λ caller i. (settled_at i).1 caller;
      are_entries = entries_are;
    },
  )

  pub all_calls : HaveAllCalls closed.config closed.passes closed.turns
  all_calls = record {
    accepted = entries_are;
    -- the entry at a place is that of the call that got this ticket
    in_claim_order = λ t e here.
        let found = at_map_back plain_item items t e (rw closed.shows at here) in
        let item = found.0 in
        let its = knows item.caller in
        let got = call_of_ticket item.caller its.memo.log items its.whole.accepted t item refl found.1 in
        let pass = its.stands got.0 (Got t item) got.1 in
        rw (← found.2) (pass.0, item, pass.1, rw (its.whole.names got.0 t item got.1).1 pass.2, refl);
    -- the calls of a caller are decided
    merged = are_merged closed.config.ring closed.turns _ (map fates_in closed.passes) (λ caller.
        let its = knows caller in
        let as_many : length (entries_of closed.turns) ≡ length items = ap length closed.shows ∙ length-map items plain_item in
        record {
          calls_are = rw (its.calls, its.fates) (length-map its.memo.log fate_of ∙ sym (length-map its.memo.log call_of));
          decided = rw (its.fates, as_many) (decided_on its.whole.decided (λ claimed front.
              front_was closed.config.ring claimed closed.turns (rw closed.fronts_are at front)));
          are_entries = rw (its.fates, closed.shows) (whole_as caller its.memo.log items its.whole.names its.whole.accepted).1;
        });
    -- all steps stand in one order
    one_order =
        let o = closed.all_taken.order in
        let n : ℕ = closed.config.ring in
        let ring : n ≡ o.positions = some-injective n o.positions
        (sym (first_front n closed.turns n []) ∙ ap (λ (fronts : List ℕ). get_elem? fronts 0) (sym closed.fronts_are) ∙ o.positions_are) in
        record {
          limit = o.limit;
          moves = o.moves;
          machine = o.machine;
          reached = rw ring o.reached;
          of_passes = λ caller pass at. o.of_seats caller (ended pass) (rw closed.are_back (at_map came closed.passes caller pass at));
          counted = o.counted;
          in_order = o.in_order;
        };
    sees = λ caller pass at. (closed.all_taken.whole caller (ended pass) (rw closed.are_back (at_map came closed.passes caller pass at))).sees;
    contexts = legal_contexts closed.config closed.turns (calls_by closed.passes) (asks_back givers) settled_classes.0 settled_classes.1;
  }
