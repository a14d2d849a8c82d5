use Rattle.trace_replay.proofs.Names.{[], append-nil, arith, drop, drop-cons, keep_split, last_of, refl, rules, sym, take, take-append-drop, take_more, turns_in}
use Rattle.trace_replay.proofs.RecordingLemmas.{made_more}
use Rattle.trace_replay.proofs.recorder.Recorder.turns_beside.Goals as goal

pub loop-tick-init : goal.loop-tick-init
loop-tick-init g c = record {
  advances = record {
    manager_is = c.requires.mine;
    turns = [];
    turns_are = sym (append-nil (turns_in c.args.self.now));
    ticks_are = refl;
    small = tt;
    records = λ config was. was;
    rests_are = refl;
    last_is = refl;
    count_is = omega arith;
  };
  back_is = refl;
  released_is = refl;
  classes_are = record { as_many = refl; each = λ i old new was is. grind (arith, was, is) };
}

pub turn-requires-clause-later : goal.turn-requires-clause-later
turn-requires-clause-later g c =
    let ticks = c.args.ticks.now in
    let i = c.loop-tick.tick-index in
    let keeps = (keep_split (last_of c.args.self.now.manager) (take i ticks) (drop i ticks) (rw (take-append-drop i ticks) c.requires.later)).1 in
    rw c.loop-tick.invariant.advances.last_is (rw (drop-cons ticks i 0 c.loop-tick-test.true) at keeps).0

pub loop-tick-preserved : goal.loop-tick-preserved
loop-tick-preserved g c = rw (take_more c.args.ticks.now c.loop-tick.tick-index 0 c.loop-tick-test.true)
    (made_more c.loop-tick.invariant (search rules))
