-- Where callers and manager stand before the first round, and one round more.
use Rattle.trace_replay.proofs.Names.{All, All-from_recursion, AllByRecursion, AllOf, AllZip-long, AreAllPasses, AreAtRest, AreMerged, AreTicks, Asked, Buffer, Caller, ClassSpec, Continues, DeskMemo, EndsRound, HasPasses, HasPlayed, IsAllowedRound, IsAtRest, IsBetween, IsManagerOf, IsNewRecorder, IsOfConfig, IsRecordOf, KeepUpFrom, List, Manager, MayAllBeAsked, MayAsk, MayBeAsked, Parts, Pass, PassMemo, Plays, Recorder, ReleasedMore, ReportTerms, RestsOnce, Round, Shared, StaysSame, StillRecords, Traced, Turn, [], add-one, all_append, all_at, all_split, all_then, ap, append_assoc, arith, at_length, at_map, at_map_back, begun_round, calls_of_each, cases_lt, changes, desk_memo, drop, ended, flat_map, flat_map-append, flat_map-push, fun_ext, get_elem?, giver_memo, givers_in, inl, inr, is_allowed, keep_split, last_from, last_from-push, length, length-append, length-flat_map-take, length-map, line_at, lines_at, lines_before, lines_of, losses_by, losses_in, map, map-append, nil_from_length, or_at, pass_memo, passes_of, refl, released_by, reports, rests_before, resumed, round_at, round_ticks, sets, sizes_of, some, some-injective, subst, sym, take, take-append-drop, take_more, there, tick_of, ticks_before, true, turns_in, turns_of, views_of, ℕ, ◌*◌, ◌++◌, ◌+◌, ◌-◌, ◌<◌, ◌^◌, ◌∙◌, ◌∷◌, ◌≡◌, ◌≤◌}
use Rattle.buffer_classes.specs.declared.class.Class.{Class}
use Rattle.report_api.specs.declared.desk.Desk.{Desk}
use Rattle.std.proofs.lemmas.Bool.Decides.{nat_tests}
use Rattle.trace_replay.proofs.MergeLemmas.{as_many_calls}
use Rattle.trace_replay.proofs.RestLemmas.{asked_at_rest, released_more, newly_past, past_still, calls_made, two_told}
use Rattle.trace_replay.proofs.RecordingLemmas.{last_on, offered_is}

module _ (config : Parts) (terms : ReportTerms) (is : IsOfConfig config terms) where
  may_be_asked : (asked : Asked) → is_allowed config asked ≡ true → MayBeAsked terms asked
  may_be_asked (reports event count stamp bytes) allowed = let sensor = is.sensors event.0 in grind (arith, nat_tests, allowed, sensor)
  may_be_asked (changes state) allowed = tt
  may_be_asked (sets event mode) allowed = let events = is.events in grind (arith, nat_tests, allowed, events)

  -- what a configuration allows may be asked
  pub all_may_be_asked : (rounds : List Round) → AllByRecursion (IsAllowedRound config) rounds → MayAllBeAsked terms rounds
  all_may_be_asked rounds all = λ k caller i less within.
      let round = All-from_recursion (IsAllowedRound config) rounds all k (begun_round 0 [] 0) less in
      let lines = all_at (AllByRecursion (MayAsk config)) (round_at rounds k).lines caller [] round.asked tt in
      let asked = All-from_recursion (MayAsk config) (lines_at caller (round_at rounds k)) lines i (changes 0) within in
      may_be_asked (line_at (lines_at caller (round_at rounds k)) i) asked.1

module _ {C : Type 0} {stands : C → Parts → List Turn → Type 0} {events : C → ℕ} {kept : C → List Buffer} {config : Parts} {shared : Shared} {passes : List Pass}
    {r0 r : Recorder C} (new : IsNewRecorder stands events kept config shared passes r0) (room : StaysSame stands events kept r0 r) where
  -- nothing was gathered yet, where room was made
  pub begins_record : IsRecordOf stands config r
  begins_record = rw (room.turns_are, room.transcript_is, new.no_turns)
      (assumption (room.manager_is.stands_then config [] new.manager_is.stands_for_none, new.nothing_sent.no_bytes, new.nothing_sent.no_ends, new.nothing_sent.no_messages))

  module _ (trace : Traced) (callers : List Caller) (are : passes_of callers ≡ passes) (none : losses_by callers ≡ []) (of_config : trace.callers ≡ config.callers) where
    -- before the first round
    pub begins : IsBetween events kept shared trace 0 callers r
    begins =
        let many : length callers ≡ length passes = sym (length-map callers (λ (c : Caller). c.pass)) ∙ ap length are in
        record {
          manager_is = room.manager_is.is_manager shared new.manager_is.is_manager;
          at_rest = λ i d low.
              let caller = there callers i low in
              let is = new.manager_is.making.each i caller.0.pass (rw are at (at_map (λ (c : Caller). c.pass) callers i caller.0 caller.1)) in
              rw (or_at callers i d caller.0 caller.1) record {
                is_pass = is.is_pass;
                listed = rw is.knows record {
                  played = record { each = tt; calls_are = refl; lost_events_are = refl };
                  number_is = refl;
                  losses_are = nil_from_length caller.0.losses.items (grind (arith, length-flat_map-take (λ (c : Caller). c.losses.items) callers i d low, none, or_at callers i d caller.0 caller.1));
                };
              };
          as_many = many ∙ new.manager_is.making.all_made ∙ sym of_config;
          all = many ∙ new.manager_is.passes_are.all ∙ sym (ap (λ desk. length (desk_memo desk).back) room.manager_is.desk_is);
          ticks_are = rw (room.turns_are, new.no_turns) refl;
          small = rw (room.turns_are, new.no_turns) tt;
          rests_are = room.rests_are ∙ new.manager_is.no_rests;
          last_is = room.manager_is.last_is ∙ new.manager_is.stands_for_none.tick_is;
          count_is = room.manager_is.turns_are ∙ new.manager_is.stands_for_none.count_is;
          released_are = omega (arith, ap (λ desk. length (desk_memo desk).released) room.manager_is.desk_is, ap length new.manager_is.making.untouched.none_released);
          classes_are = λ i giver at.
              let its = rw room.manager_is.desk_is at at in
              let making = new.manager_is.making in
              let sizes = ap length new.manager_is.made_for.sizes in
              let spec = there config.classes i (omega (
                arith,
                at_length _ i giver its,
                making.is_desk.givers.all,
                sizes,
                length-map config.classes (λ (class : ClassSpec). class.size),
                length-map shared.classes.classes.items (λ (class : Class). class.size),
              )) in
              omega (arith, ap length (making.givers_are i spec.0 giver spec.1 its).untouched.none_released);
        }

-- ---- ticks

-- the ticks of one round more
pub ticks_more : (rounds : List Round) (k : ℕ) → k < length rounds
    → ticks_before rounds (k + 1) ≡ ticks_before rounds k ++ ((round_at rounds k).beside ++ (round_at rounds k).after ∷ [])
ticks_more rounds k less = rw (take_more rounds k (begun_round 0 [] 0) less) (flat_map-push round_ticks (take k rounds) (round_at rounds k))

-- those of round k keep up with the ones before
pub record NextKeeps (rounds : List Round) (k : ℕ) : Type 0 where
  pub beside : KeepUpFrom (last_from 0 (ticks_before rounds k)) (round_at rounds k).beside
  pub after : last_from (last_from 0 (ticks_before rounds k)) (round_at rounds k).beside ≤ (round_at rounds k).after
  pub small : All (λ tick. tick ≤ 2 ^ 62) (round_at rounds k).beside
  pub small_after : (round_at rounds k).after ≤ 2 ^ 62

pub next_keeps : {rounds : List Round} → AreTicks rounds → (k : ℕ) → k < length rounds → NextKeeps rounds k
next_keeps {rounds} ticks k less =
    let here = round_at rounds k in
    let rest = here.after ∷ flat_map round_ticks (drop (k + 1) rounds) in
    let all : flat_map round_ticks rounds ≡ ticks_before rounds k ++ (here.beside ++ rest) = ap (flat_map round_ticks) (sym (take-append-drop (k + 1) rounds))
    ∙ rw (flat_map-append round_ticks (take (k + 1) rounds) (drop (k + 1) rounds)) (simp (ticks_more rounds k less, append_assoc)) in
    let keeps = keep_split _ here.beside rest (keep_split 0 (ticks_before rounds k) (here.beside ++ rest) (rw all at ticks.keep_up)).1 in
    let small = all_split _ here.beside rest (all_split _ (ticks_before rounds k) _ (rw all at ticks.small)).1 in
    record { beside = keeps.0; after = keeps.1.0; small = All-from_recursion _ here.beside small.0; small_after = small.1.0 }

-- ---- callers

module _ (shared : Shared) (rounds : List Round) (k : ℕ) (callers : List Caller) (rest : AreAtRest shared rounds k callers) where
  pub at_rest : (i : ℕ) (caller : Caller) → get_elem? callers i ≡ some caller → IsAtRest shared i (lines_of i (take k rounds)) caller
  at_rest i caller at = subst (IsAtRest shared i (lines_of i (take k rounds))) (or_at callers i caller caller at)
      (rest i caller (at_length callers i caller at))

  -- they have all passes of a manager whose desk gave out as many
  abbrev pub has_passes : {C L : Type 0} {events : C → ℕ} {kept : C → List Buffer} {m : Manager C L} → IsManagerOf events kept shared m
      → length callers ≡ length (desk_memo m.desk).back → HasPasses events kept (passes_of callers) m
  has_passes is all = record {
    shared = shared;
    is_manager = is;
    passes_are = record {
      all = length-map callers (λ (caller : Caller). caller.pass) ∙ all;
      each = λ i pass at.
          let its = at_map_back (λ (caller : Caller). caller.pass) callers i pass at in
          let is = at_rest i its.0 its.1 in
          rw (sym its.2) (is.is_pass, is.listed.number_is);
    };
  }

-- callers that were held are still at rest, where each pass goes on
pub still_at_rest : (shared : Shared) (rounds : List Round) (k : ℕ) (old new : List Caller) {desk : DeskMemo} (offered : ℕ)
    → AreAtRest shared rounds k old → AreAllPasses shared desk (passes_of new) → AllOf (λ i (o n : Caller). n.losses ≡ o.losses) old new
    → ((caller : ℕ) (pass : PassMemo) → get_elem? (views_of old) caller ≡ some pass → get_elem? (views_of new) caller ≡ some (resumed offered (ended pass)))
    → AreAtRest shared rounds k new
still_at_rest shared rounds k old new offered rest all same goes i d low =
    let now = there new i low in
    let was = there old i (rw same.as_many at low) in
    let its = at_rest shared rounds k old rest i was.0 was.1 in
    let view : pass_memo now.0.pass ≡ resumed offered (ended (pass_memo was.0.pass)) = some-injective _ _
    (sym (at_map (λ (c : Caller). pass_memo c.pass) new i now.0 now.1) ∙ goes i _ (at_map (λ (c : Caller). pass_memo c.pass) old i was.0 was.1)) in
    let losses = ap (λ losses. losses.items) (same.each i was.0 now.0 was.1 now.1) in
    rw (or_at new i d now.0 now.1) record {
      is_pass = (all.each i now.0.pass (at_map (λ (c : Caller). c.pass) new i now.0 now.1)).0;
      listed = rw (view, losses) (assumption its.listed);
    }

-- ---- one round more

module _ {C : Type 0} {stands : C → Parts → List Turn → Type 0} {events : C → ℕ} {kept : C → List Buffer} where
  -- what was gathered is so still after a rest
  still : {calls : List ℕ} {old new : Recorder C} → RestsOnce stands events kept calls old new → StillRecords stands old new
  still {old = old} once config was =
      rw (once.turns_are, once.transcript_is) (assumption (once.manager_is.stands_then config (turns_in old) was.stands_for, was.transcript, was.causal))

  module _ {shared : Shared} {trace : Traced} {k : ℕ} {r r0 r1 r4 : Recorder C} {old mid new : List Caller}
      (was : Plays stands events kept shared trace k old r r0) (beside : Continues stands events kept shared (round_at trace.rounds k).beside r0 r1)
      (ends : EndsRound stands events kept shared (round_at trace.rounds k).after mid new r1 r4) (less : k < length trace.rounds)
      (lines : AllByRecursion (λ round. length round.lines ≡ trace.callers) trace.rounds)
      (played : AreAtRest shared trace.rounds (k + 1) mid) (rest : AreAtRest shared trace.rounds (k + 1) new) (mids : length mid ≡ trace.callers) where
    -- all stands as it does between rounds, with one round more played
    pub round_played : Plays stands events kept shared trace (k + 1) new r r4
    round_played =
        let between = was.between in
        let here = round_at trace.rounds k in
        let first = beside.advances in
        let last = ends.turn.advances in
        let views = λ (callers : List Caller). length-map callers (λ (c : Caller). pass_memo c.pass) in
        let many : length new ≡ trace.callers = sym (views new) ∙ ends.turn.rested.as_many ∙ views mid ∙ mids in
        let turned_more : turns_in ends.turned ≡ turns_in r1 ++ last.turns = rw (last.turns_are, ends.before.turns_are) refl in
        let turns_more : turns_in r4 ≡ turns_in r0 ++ (first.turns ++ last.turns) =
        rw (ends.after.turns_are, turned_more, first.turns_are) (append_assoc (turns_in r0) first.turns last.turns) in
        let more = ticks_more trace.rounds k less in
        let ticks = simp length-append at (ap length more) in
        let ticks_are : map tick_of (turns_in r4) ≡ ticks_before trace.rounds (k + 1) = rw (turns_more, more) (simp map-append (cc (between.ticks_are, first.ticks_are, last.ticks_are))) in
        let closed = ends.turn.rested.closed in
        let called = λ (callers : List Caller) (its : AreAtRest shared trace.rounds (k + 1) callers) (all : length callers ≡ trace.callers).
        rw all at (calls_made shared (take (k + 1) trace.rounds) 0 callers
        (λ i j caller is at. let same : j ≡ i = omega (arith, is) in rw same (at_rest shared trace.rounds (k + 1) callers its i caller at))) in
        let pass_at : (i : ℕ) (pass : PassMemo) → get_elem? (views_of mid) i ≡ some pass → HasPlayed (sizes_of shared) (lines_before trace.rounds (k + 1) i) pass × (pass.number ≡ i) =
        λ i pass at.
        let its = at_map_back (λ (c : Caller). pass_memo c.pass) mid i pass at in
        let listed = (at_rest shared trace.rounds (k + 1) mid played i its.0 its.1).listed in
        rw (sym its.2) (listed.played, listed.number_is) in
        let released : released_by r4 ≡ released_by r0 ++ views_of new =
        ap (λ (d : Desk). (desk_memo d).released) ends.after.manager_is.desk_is ∙ ends.turn.rested.remembers
        ∙ ap (λ released. released ++ views_of new) (ap (λ (d : Desk). (desk_memo d).released) ends.before.manager_is.desk_is ∙ beside.released_is) in
        let classes = rw (← ends.after.manager_is.desk_is, ends.before.manager_is.desk_is) at
        (released_more (views_of mid) closed.are_back closed.tied closed.settled closed.classes_released ends.turn.rested.classes_remember) in
        let grown : AllOf (λ i. ReleasedMore (length (views_of mid))) (givers_in r0) (givers_in r4) =
        all_then beside.classes_are classes (λ i old mid new kept did.
        record { more = did.more; released_is = did.released_is ∙ ap (λ released. released ++ did.more) kept; all = did.all }) in
        let rest1 : turns_of r1.manager + 1 ≡ length (ticks_before trace.rounds (k + 1)) = omega (arith, first.count_is, between.count_is, ticks) in
        let rest3 : turns_of ends.turned.manager ≡ turns_of r1.manager + 1 = omega (arith, last.count_is, ends.before.manager_is.turns_are) in
        let rest2 : turns_of r1.manager ≡ length (ticks_before trace.rounds (k + 1)) - 1 = omega (arith, rest1) in
        let told = two_told (rests_before trace.callers trace.rounds k) (calls_of_each mid) _ _ _ _ _ rest2 (rest3 ∙ rest1) (called mid played mids) in
        record {
          between = record {
            manager_is = ends.after.manager_is.is_manager shared last.manager_is;
            at_rest = rest;
            as_many = many;
            all = many ∙ sym between.as_many ∙ between.all ∙ sym (cc (ends.after.manager_is.desk_is, ends.turn.as_many, ends.before.manager_is.desk_is, beside.back_is));
            ticks_are = ticks_are;
            small = rw turns_more (all_append _ (turns_in r0) _ between.small (all_append _ first.turns last.turns first.small last.small));
            rests_are = rw add-one (cc (ends.after.rests_are, last.rests_are, ends.before.rests_are, first.rests_are, between.rests_are, called new rest many, called mid played mids, rw add-one at told));
            last_is = ends.after.manager_is.last_is ∙ last.last_is ∙ sym (rw more (last_on 0 (ticks_before trace.rounds k) (here.beside ++ here.after ∷ [])
                ∙ last_from-push _ here.beside here.after []));
            count_is = ends.after.manager_is.turns_are ∙ rest3 ∙ rest1;
            released_are = omega (arith, ap length released, length-append (released_by r0) (views_of new), between.released_are, views new, many);
            classes_are = λ i giver at.
                let old = there (givers_in r0) i (omega (arith, grown.as_many, at_length (givers_in r4) i giver at)) in
                let did = grown.each i old.0 giver old.1 at in
                omega (arith, ap length did.released_is, length-append (giver_memo old.0).released did.more, between.classes_are i old.0 old.1, did.all, views mid, mids);
          };
          records = λ config is. still ends.after config (ends.turn.advances.records config (still ends.before config (first.records config (was.records config is))));
          pasts = λ config made_for is j below.
              let rested = still ends.before config (first.records config (was.records config is)) in
              elim (cases_lt j k) [
                | inl earlier ↦ past_still (first.turns ++ last.turns) (views_of new) (was.pasts config made_for is j earlier) turns_more released grown
                | inr late ↦
                    let same : j ≡ k = omega (arith, late, below) in
                    let turned : turns_in r4 ≡ turns_in ends.turned = ends.after.turns_are in
                    let ended : length (ticks_before trace.rounds (k + 1)) ≡ length (turns_in ends.turned) =
                    ap length (sym ticks_are) ∙ length-map (turns_in r4) tick_of ∙ ap length turned in
                    let merged = rw (← ends.turn.gathered) at (closed.all_calls config _ made_for rested.stands_for).merged in
                    let lines = fun_ext (as_many_calls (sizes_of shared) (take (k + 1) trace.rounds) (views_of mid) trace.callers
                    (all_split _ (take (k + 1) trace.rounds) _ (subst (AllByRecursion (λ round. length round.lines ≡ trace.callers)) (sym (take-append-drop (k + 1) trace.rounds)) lines)).0
                    (views mid ∙ mids) (λ i pass at. (pass_at i pass at).0)) in
                    let asked = asked_at_rest (views_of mid) closed.are_back closed.tied closed.settled closed.classes_released ends.turn.rested.classes_remember (k * trace.callers) (λ i giver at.
                    let at = rw ends.before.manager_is.desk_is at at in
                    let old = there (givers_in r0) i (omega (arith, beside.classes_are.as_many, at_length (givers_in r1) i giver at)) in
                    ap length (beside.classes_are.each i old.0 giver old.1 at) ∙ between.classes_are i old.0 old.1) in
                    let asked = rw (← ends.after.manager_is.desk_is, ← between.released_are, views mid ∙ mids) at asked in
                    rw (same, turned, released, ← between.released_are) (newly_past (released_by r0) (views_of mid) (views_of new)
                    (subst (λ calls. AreMerged config.ring calls (turns_in ends.turned) (losses_in config.ring (views_of mid))) lines merged) ended
                    (views mid ∙ mids)
                    (λ i pass at. let its = pass_at i pass at in (sym (AllZip-long _ _ pass.log its.0.each), sym its.0.calls_are, its.1))
                    (offered_is ends.turn made_for rested) ends.turn.rested.go_on asked (rw (← ends.turn.gathered) at (closed.classes config _ made_for rested.stands_for)))
              ];
        }
