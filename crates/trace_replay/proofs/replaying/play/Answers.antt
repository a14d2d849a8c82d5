use Rattle.trace_replay.proofs.Names.{Caller, arith, last_of_all, last_small, length, pass_memo, take_all}
use Rattle.std.proofs.lemmas.Simd.{map-map}
use Rattle.trace_replay.proofs.EndLemmas.{is_replay}
use Rattle.trace_replay.proofs.RoundLemmas.{begins, begins_record, has_passes}
use Rattle.trace_replay.proofs.replaying.play.Goals as goal

pub play_beside-requires-clause-between : goal.play_beside-requires-clause-between
play_beside-requires-clause-between g c κs within =
    begins c.requires.new c.reserve_rests.ensures c.args.stage.now.trace.now _ c.in_ok-callers.ensures.passes c.in_ok-callers.ensures.losses c.requires.callers

pub close-requires : goal.close-requires
close-requires g c =
    let rounds = c.args.stage.now.trace.now.rounds in
    let between = c.in_ok-play_beside.ensures.between in
    record {
      mine = between.manager_is;
      later = rw (between.last_is, take_all (length rounds) rounds (omega arith), last_of_all rounds, ← c.last_tick.ensures.tick) (omega arith);
      small = rw c.last_tick.ensures.tick (last_small rounds c.last_tick.ensures.ticks);
      passes = rw c.in_ok-passes.ensures.passes (has_passes _ rounds (length rounds) c.play_beside.new.callers.items between.at_rest between.manager_is between.all).passes_are;
    }

pub returns : goal.returns
returns g c =
    let passes = rw c.in_ok-passes.ensures.passes at c.in_ok-close.ensures in
    let views = rw (map-map pass_memo (λ (d : Caller). d.pass)) at passes in
    rw c.in_ok-passes.ensures.losses (is_replay c.in_ok-play_beside.ensures (begins_record c.requires.new c.reserve_rests.ensures) views c.last_tick.ensures.tick
    c.parts-valid.ensures.valid c.requires.callers c.requires.rounds c.requires.set.can c.requires.new.manager_is.made_for)
