use Rattle.trace_replay.proofs.Names.{AllZip-long, Answers, Asked, CallsOnce, Got, HasListed, List, Lost, Outcome, Told, [], all_zipped_more, ap, append_assoc, arith, begun_round, changes, common_steps, fate_of, length, length-flat_map-take, length_push, line_at, lines_at, lines_before, loss_of, losses_from, lost_report, lost_reports, map, refl, round_at, suc, sym, take, take_more, ℕ, ◌++◌, ◌+◌, ◌-◌, ◌<◌, ◌∙◌, ◌∷◌, ◌≡◌}
use Rattle.trace_replay.proofs.caller.Caller.play.Goals as goal

-- the lost reports, with one call more
lost_push : (lines : List Asked) (log : List Outcome) (asked : Asked) (outcome : Outcome) → length lines ≡ length log
    → lost_reports (lines ++ asked ∷ []) (log ++ outcome ∷ []) ≡ lost_reports lines log + lost_report asked outcome
lost_push [] [] asked outcome same = omega arith
lost_push (a ∷ lines) (o ∷ log) asked outcome same = omega (arith, lost_push lines log asked outcome (omega (arith, same)))
lost_push lines log asked outcome same = absurd (omega (arith, same))

-- the losses, with one call more
losses_push : (n i call place : ℕ) (log : List Outcome) (outcome : Outcome) → place ≡ call + length log
    → losses_from n i call (map fate_of (log ++ outcome ∷ [])) ≡ losses_from n i call (map fate_of log) ++ loss_of n i place outcome
losses_push n i call place [] (Lost claimed) is = let same : place ≡ call = omega (arith, is) in rw same refl
losses_push n i call place [] (Got ticket item) is = refl
losses_push n i call place (Lost claimed ∷ log) outcome is =
    ap (λ losses. record { caller = i; call = call; given = claimed - n } ∷ losses) (losses_push n i (suc call) place log outcome (omega (arith, is)))
losses_push n i call place (Got ticket item ∷ log) outcome is = losses_push n i (suc call) place log outcome (omega (arith, is))

-- a caller that made one call more
plays_on : {sizes : List ℕ} {n i : ℕ} {old new : Told} {lines : List Asked} {asked : Asked} → HasListed sizes n i lines old → CallsOnce sizes n asked old new
    → HasListed sizes n i (lines ++ asked ∷ []) new
plays_on {sizes = sizes} {n = n} {i = i} {old = old} {lines = lines} {asked = asked} before once =
    let as_many = sym (AllZip-long (Answers sizes) lines old.pass.log before.played.each) in
    let place : old.pass.view.calls ≡ 0 + length old.pass.log = omega (arith, before.played.calls_are, as_many) in
    record {
      played = record {
        each = rw once.log_is (all_zipped_more (Answers sizes) lines old.pass.log asked once.outcome before.played.each once.answers);
        calls_are = omega (arith, once.calls_are, before.played.calls_are, length_push lines asked);
        lost_events_are = rw once.log_is (omega (arith, once.lost_events_are, before.played.lost_events_are, lost_push lines old.pass.log asked once.outcome as_many));
      };
      number_is = once.number_is ∙ before.number_is;
      losses_are = once.losses_are ∙ rw (before.losses_are, before.number_is, once.log_is) (sym (losses_push n i 0 old.pass.view.calls old.pass.log once.outcome place));
    }

pub call-requires-clause-few : goal.call-requires-clause-few
call-requires-clause-few g c =
    let whole = length-flat_map-take (lines_at c.args.caller) c.args.trace.now.rounds c.args.round (begun_round 0 [] 0) c.requires.round in
    grind (arith, common_steps, c.requires.few, c.loop-i.invariant.0.listed.played.calls_are, whole)

pub loop-i-preserved : goal.loop-i-preserved
loop-i-preserved g c =
    let i = c.loop-i.i in
    let before = lines_before c.args.trace.now.rounds c.args.round c.args.caller in
    let lines = lines_at c.args.caller (round_at c.args.trace.now.rounds c.args.round) in
    let below : i < length lines = omega (arith, c.loop-i-test.true, c.lines-i-end.ensures) in
    let once = rw (c.line.ensures, c.requires.positions) at c.call.ensures.once in (
      record {
        is_pass = c.call.ensures.mine;
        listed = rw (take_more lines i (changes 0) below, ← append_assoc before (take i lines) (line_at lines i ∷ [])) (plays_on c.loop-i.invariant.0.listed once);
      },
      omega (arith, c.loop-i.invariant.1, c.call.ensures.room, c.call.ensures.few),
    )
