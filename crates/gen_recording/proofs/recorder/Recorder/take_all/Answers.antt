use Rattle.gen_recording.proofs.Names.{◌<◌, ◌≤◌, [], length, reverse-append, refl, arith, on_ok_weaker, take_all, take_more, last_tick, begun_round, last_tick-push}
use Rattle.text_spec.proofs.JournalFacts.{flat_map-push}
use Rattle.gen_recording.proofs.RecordingLemmas.{next_keeps}
use Rattle.gen_recording.proofs.recorder.Recorder.take_all.Goals as goal

pub take_round-requires-clause-ticks : goal.take_round-requires-clause-ticks
take_round-requires-clause-ticks c =
    let rounds = c.args.trace.now.rounds in
    let there : c.loop-round.round < length rounds = omega (arith, c.rounds-round-end.ensures) in
    (next_keeps c.loop-round.self.tick rounds c.loop-round.round (last_tick rounds) there c.loop-round.invariant.ticks).0

pub loop-round-preserved : goal.loop-round-preserved
loop-round-preserved c =
    let rounds = c.args.trace.now.rounds in
    let k = c.loop-round.round in
    let there : k < length rounds = omega (arith, c.rounds-round-end.ensures) in
    record {
      at = rw (take_more rounds k (begun_round 0 [] 0), flat_map-push, reverse-append) (c.in_ok-take_round.ensures.at _ c.loop-round.invariant.at);
      last = rw (c.in_ok-take_round.ensures.tick, take_more rounds k (begun_round 0 [] 0), last_tick-push) refl;
      ticks = rw c.in_ok-take_round.ensures.tick (next_keeps c.loop-round.self.tick rounds k (last_tick rounds) there c.loop-round.invariant.ticks).1;
    }

pub returns : goal.returns
returns c = on_ok_weaker c.turn.result (λ made.
    let all : length c.args.trace.now.rounds ≤ c.loop-round.round = omega (arith, c.rounds-round-end.ensures, c.loop-round-test.false) in
    rw reverse-append (rw (c.loop-round.invariant.last, take_all) at (made _ _ c.loop-round.invariant.at))) c.turn.ensures.at
