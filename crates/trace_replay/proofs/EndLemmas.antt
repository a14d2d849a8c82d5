-- The end of a replay: from where its callers and its manager stand to what it gives.
use Rattle.trace_replay.proofs.Names.{AllByRecursion, AllOf, AreRounds, AreSettled, AreTied, Buffer, Caller, CanPlay, ClassRest, Closes, Giver, GoesOn, HaveAllCalls, HavePlayed, IsClassRest, IsMadeFor, IsPast, IsRecordOf, IsReplayOver, IsSettled, IsSmallTurn, IsValid, KeepsReleased, List, Option, Parts, PassMemo, Plays, Recorder, ReleasedMore, Round, SeesRests, Shared, Traced, Turn, [], add-one, all_append, all_losses, all_rests, ap, append-nil, arith, as_told, asks_back, at_map, at_map_back, calls_by, came, cases_lt, class_at, ended, fates_in, get_elem?, given, giver_memo, inl, inr, last_tick, length, length-map, losses_by, losses_from, losses_in, map, map-append, pass_memo, refl, released_by, rest_after, rest_by, some, suc, sym, take_all, tick_of, ticks_of, turns_in, views_of, without_log, zero, ℕ, ◌*◌, ◌+◌, ◌<◌, ◌∙◌, ◌∷◌, ◌≡◌, ◌≤◌}
use Rattle.law_closing.proofs.SizeLemmas.{first_is_small}
use Rattle.main_function.proofs.LogLemmas.{mine_without, stands_without}
use Rattle.trace_replay.proofs.MergeLemmas.{merged, no_lines}
use Rattle.trace_replay.proofs.RestLemmas.{class_rest, past_asked, past_rested, past_still, past_told}
use Rattle.trace_replay.proofs.RoundLemmas.{at_rest}
use Rattle.trace_text.proofs.JournalLemmas.{merge_fits}
use Rattle.trace_text.specs.Small.{AreSmall}

-- the losses of callers that list what they lost, one caller after another
all_listed : (n from : ℕ) (callers : List Caller)
    → ((i j : ℕ) (caller : Caller) → j ≡ from + i → get_elem? callers i ≡ some caller
    → caller.losses.items ≡ losses_from n j 0 (fates_in (pass_memo caller.pass)))
    → losses_by callers ≡ all_losses n from (map fates_in (views_of callers))
all_listed n from [] each = refl
all_listed n from (caller ∷ callers) each =
    let rest = all_listed n (suc from) callers (λ i j c is. each (suc i) j c (omega (arith, is))) in
    cc (each 0 from caller (omega arith) refl, rest)

pub all_map : {A : Type 0} (P Q : A → Type 0) → ((x : A) → P x → Q x) → (xs : List A) → AllByRecursion P xs → AllByRecursion Q xs
all_map P Q f [] all = tt
all_map P Q f (x ∷ xs) all = (f x all.0, all_map P Q f xs all.1)

-- who released no seat released none more
none_more : {olds news : List Giver} → AllOf (λ i. KeepsReleased) olds news → AllOf (λ i. ReleasedMore 0) olds news
none_more keeps = record { as_many = keeps.as_many; each = λ i old new was is. record { more = []; released_is = keeps.each i old new was is ∙ sym (append-nil _); all = refl } }

-- the start and each rest after a round's last turn was a rest for the classes
rests_at : {config : Parts} {rounds : List Round} {turns : List Turn} {released : List PassMemo} {givers : List Giver} {sizes : List ℕ} {back : List (Option PassMemo)}
    {claimants : ℕ → List ℕ} (passes : List PassMemo) (many : length passes ≡ config.callers)
    (past : (k : ℕ) → k < length rounds → IsPast config config.callers (k * config.callers) turns released givers (rest_after rounds k))
    (go : (p : ℕ) (was pass : PassMemo) → get_elem? released p ≡ some was → get_elem? passes was.number ≡ some pass → GoesOn was pass)
    (sees : (caller : ℕ) (pass : PassMemo) → get_elem? passes caller ≡ some pass → SeesRests pass.rests pass.log)
    (are : back ≡ map came passes) (tied : AreTied sizes back givers) (each : (i : ℕ) (giver : Giver) → get_elem? givers i ≡ some giver → IsSettled (giver_memo giver))
    (settled : AreSettled config turns (calls_by passes) (asks_back givers) claimants) (k : ℕ) → k ≤ length rounds
    → (at : ClassRest) × IsClassRest config rounds givers turns (calls_by passes) k at
rests_at {config} {rounds} passes many past go sees are tied each settled zero le = (
  record { rest = rest_by rounds 0; offered = λ i. (class_at config i).number; asks = λ caller i. 0 },
  record {
    rest_is = refl;
    rested = record {
      settled = λ caller i place claimed low. absurd (omega (arith, low));
      sees = λ caller i place claimed low at. (settled.settled caller i).decided.at_front place claimed at;
    };
    asked = record { asked = λ caller i. refl; within = λ caller i. omega arith };
    at_first = λ i first. refl;
    told = λ j i caller giver next. absurd (omega (arith, next));
  },
)
rests_at {config} {rounds} passes many past go sees are tied each settled (suc k) le =
    let its = past k (omega (arith, le)) in
    let asked = past_asked passes many its go sees are tied each in (
      class_rest passes many its go sees are tied each,
      record {
        rest_is = rw add-one refl;
        rested = asked.0;
        asked = asked.1;
        at_first = λ i first. absurd (omega (arith, first));
        told = λ j i caller giver next at low. let same : k ≡ j = omega (arith, next) in rw (← same) (past_told passes many its go sees are tied each i caller giver at low);
      },
    )

module _ {C : Type 0} {stands : C → Parts → List Turn → Type 0} {events : C → ℕ} {kept : C → List Buffer} {config : Parts} {shared : Shared} {trace : Traced}
    {callers : List Caller} {r1 r2 : Recorder C} {tick : ℕ} {r0 : Recorder C} (plays : Plays stands events kept shared trace (length trace.rounds) callers r0 r1)
    (begun : IsRecordOf stands config r0) (closes : Closes stands events kept shared tick (views_of callers) r1 r2) (tick_is : tick ≡ last_tick trace.rounds)
    (valid : IsValid config) (of_config : trace.callers ≡ config.callers) (rounds : AreRounds config trace.rounds)
    {positions : ℕ} (can : CanPlay shared positions trace) (made_for : IsMadeFor config shared) where
  -- it is a replay of the rounds
  pub is_replay : IsReplayOver stands events kept config trace.rounds (without_log r2.manager) (given r2 (losses_by callers))
  is_replay =
      let between = plays.between in
      let was = plays.records config begun in
      let recorded = closes.advances.records config was in
      let closed = closes.closed in
      let calls : HaveAllCalls config (views_of callers) (turns_in r2) = rw closes.gathered (closed.all_calls config _ made_for was.stands_for) in
      let whole = take_all (length trace.rounds) trace.rounds (omega arith) in
      let listed = λ (i : ℕ) (caller : Caller) (at : get_elem? callers i ≡ some caller).
      rw (whole, made_for.positions_are, made_for.sizes) at (at_rest shared trace.rounds (length trace.rounds) callers between.at_rest i caller at).listed in
      let played : HavePlayed config trace.rounds (views_of callers) = record {
        all = length-map callers (λ (c : Caller). pass_memo c.pass) ∙ between.as_many ∙ of_config;
        each = λ i view at.
            let caller = at_map_back (λ (c : Caller). pass_memo c.pass) callers i view at in rw (sym caller.2) (listed i caller.0 caller.1).played;
      } in
      let small : AllByRecursion (IsSmallTurn config.ring) (turns_in r2) = rw (closes.advances.turns_are, ← made_for.positions_are)
      (all_append _ (turns_in r1) closes.advances.turns between.small closes.advances.small) in
      let losses_are : losses_by callers ≡ losses_in config.ring (views_of callers) =
      all_listed config.ring 0 callers (λ i j caller is at. let same : j ≡ i = omega (arith, is) in rw same (listed i caller at).losses_are) in
      let ticks : map tick_of (turns_in r2) ≡ ticks_of trace.rounds =
      rw (closes.advances.turns_are, map-append, between.ticks_are, closes.advances.ticks_are, tick_is, whole) refl in
      let sizes = λ (bytes : ℕ). rw made_for.sizes at (first_is_small config shared.classes bytes closes.advances.manager_is.desk_is.givers.are made_for.sizes) in
      let merge =
      merged config trace.rounds (turns_in r2) (views_of callers) sizes (rw of_config at can.each_caller) played calls
      (rw closes.gathered (closed.sums config _ was.stands_for)) closed.counts ticks (all_map (IsSmallTurn config.ring) _ (λ turn is. is.few) (turns_in r2) small) in
      let are_small : AreSmall trace.rounds (turns_in r2) = record {
        few_lines = λ caller. elim (cases_lt caller trace.callers) [
          | inl less ↦ omega (arith, can.few caller less)
          | inr past ↦ rw (no_lines trace.callers caller trace.rounds can.each_caller past) (omega arith)
        ];
        few_entries = rw (← recorded.stands_for.reports_show.items_are, length-map) (omega (arith, closes.advances.manager_is.items_within));
        heads = all_map (IsSmallTurn config.ring) _ (λ turn is. assumption is.head_is) (turns_in r2) small;
      } in
      let gone : (p : ℕ) (before pass : PassMemo) → get_elem? (released_by r2) p ≡ some before → get_elem? (views_of callers) before.number ≡ some pass → GoesOn before pass =
      λ p before pass rel at.
      let on = closed.go_on p before (ended pass) rel (rw closed.are_back (at_map came (views_of callers) before.number pass at)) in
      record { calls = on.calls; log_is = on.log_is; rests = on.rests; rests_are = on.rests_are } in
      let past = λ (k : ℕ) (less : k < length trace.rounds).
      past_still closes.advances.turns [] (rw of_config at (plays.pasts config made_for begun k less)) closes.advances.turns_are
      (closed.released_is ∙ sym (append-nil (released_by r1))) (none_more closed.classes_released) in
      let settled = rw (← closes.gathered) at (closed.classes config _ made_for was.stands_for) in
      record {
        merged = rw losses_are merge;
        fits = rw losses_are (merge_fits config trace.rounds (turns_in r2) (losses_in config.ring (views_of callers)) valid rounds are_small merge);
        causal = recorded.causal;
        sent = recorded.transcript.sent;
        ends = recorded.transcript.ends;
        messages = recorded.transcript.messages;
        shared = shared;
        made_for = made_for;
        is_manager = mine_without closes.advances.manager_is;
        stands_for = stands_without recorded.stands_for;
        rests_are = closes.advances.rests_are ∙ between.rests_are ∙ ap (λ n. as_told (all_rests n trace.rounds)) of_config;
        passes = views_of callers;
        are_back = closed.are_back;
        played = played;
        calls = calls;
        losses_are = losses_are;
        rested = λ k less. rw losses_are (past_rested (views_of callers) played.all (past k less) gone calls.sees);
        claimants = settled.0;
        settled = settled.1;
        classes_rested = λ k. rests_at (views_of callers) played.all past gone calls.sees closed.are_back closed.tied closed.settled settled.1 k;
      }
