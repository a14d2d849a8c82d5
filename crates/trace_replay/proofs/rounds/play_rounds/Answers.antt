use Rattle.trace_replay.proofs.Names.{ap, ℕ, ◌++◌, take, drop, take-append_seam, Caller, arith, length, length-map, pass_memo, sym, ◌∙◌, ◌≡◌}
use Rattle.trace_replay.proofs.RoundLemmas.{next_keeps, round_played}
use Rattle.trace_replay.proofs.rounds.play_rounds.Goals as goal

pub play_calls-requires-clause-later : goal.play_calls-requires-clause-later
play_calls-requires-clause-later g c =
    rw c.loop-round.invariant.between.last_is (next_keeps c.requires.set.can.ticks c.loop-round.round (omega arith)).beside

pub play_calls-requires-clause-small : goal.play_calls-requires-clause-small
play_calls-requires-clause-small g c = (next_keeps c.requires.set.can.ticks c.loop-round.round (omega arith)).small

pub end_round-requires-clause-all : goal.end_round-requires-clause-all
end_round-requires-clause-all g c =
    let played = c.in_ok-play_calls.ensures in
    let between = c.loop-round.invariant.between in
    rw c.as_mut_slice.ensures.value (cc (played.callers, played.turns.back_is, between.as_many, between.all))

pub end_round-requires-clause-later : goal.end_round-requires-clause-later
end_round-requires-clause-later g c = rw (c.in_ok-play_calls.ensures.turns.advances.last_is, c.loop-round.invariant.between.last_is)
    (next_keeps c.requires.set.can.ticks c.loop-round.round (omega arith)).after

pub end_round-requires-clause-small : goal.end_round-requires-clause-small
end_round-requires-clause-small g c = (next_keeps c.requires.set.can.ticks c.loop-round.round (omega arith)).small_after

pub loop-round-init : goal.loop-round-init
loop-round-init g c = record { between = c.requires.between; records = λ config is. is; pasts = λ config made_for is j below. absurd (omega (arith, below)) }

pub loop-round-preserved : goal.loop-round-preserved
loop-round-preserved g c =
    let played = c.in_ok-play_calls.ensures in
    let ended = rw c.as_mut_slice.ensures.value at c.in_ok-end_round.ensures in
    let mids = c.play_calls.new.callers in
    let news = c.end_round.new.callers in
    let many : length news ≡ length mids.items =
    sym (length-map news (λ (d : Caller). pass_memo d.pass)) ∙ ended.ends.turn.rested.as_many ∙ length-map mids.items (λ (d : Caller). pass_memo d.pass) in
    let long : mids.len ≡ length news = omega (arith, mids.ok, many) in
    rw (ap (λ (len : ℕ). take len (news ++ drop (length news) mids.items)) long ∙ take-append_seam news (drop (length news) mids.items))
    (round_played c.loop-round.invariant played.turns ended.ends (omega arith) c.requires.set.can.each_caller played.rest ended.rest played.callers)
