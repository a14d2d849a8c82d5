use Rattle.trace_replay.proofs.Names.{Gathered, Recorder, ap, arith, refl, sym, ◌+◌, ◌∙◌}
use Rattle.trace_replay.proofs.RoundLemmas.{has_passes, still_at_rest}
use Rattle.trace_replay.proofs.rounds.end_round.Goals as goal

pub rest-requires : goal.rest-requires
rest-requires g c = record {
  passes = has_passes c.args.stage.now.shared.now c.args.stage.now.trace.now.rounds (c.args.round + 1) c.args.callers.now c.requires.rest c.requires.mine c.requires.all;
}

pub turn_at_rest-requires-clause-mine : goal.turn_at_rest-requires-clause-mine
turn_at_rest-requires-clause-mine g c = c.in_ok-rest.ensures.same.is_manager c.args.stage.now.shared.now c.requires.mine

pub turn_at_rest-requires-clause-later : goal.turn_at_rest-requires-clause-later
turn_at_rest-requires-clause-later g c = omega (arith, c.in_ok-rest.ensures.same.last_is, c.after.ensures, c.requires.later)

pub turn_at_rest-requires-clause-passes : goal.turn_at_rest-requires-clause-passes
turn_at_rest-requires-clause-passes g c = rw c.in_ok-rest.ensures.same.desk_is
    (has_passes c.args.stage.now.shared.now c.args.stage.now.trace.now.rounds (c.args.round + 1) c.args.callers.now c.requires.rest c.requires.mine c.requires.all).passes_are

pub rest-requires-2 : goal.rest-requires-2
rest-requires-2 g c =
    let turn = c.in_ok-turn_at_rest.ensures.turns in
    let passes = c.in_ok-turn_at_rest.ensures.passes in
    record { passes = record { shared = c.args.stage.now.shared.now; is_manager = turn.advances.manager_is; passes_are = record { all = passes.all ∙ sym turn.as_many; each = passes.each } } }

pub returns : goal.returns
returns g c =
    let rested : Recorder _ = record { manager = c.rest.new.self; transcript = c.args.recorder.now.transcript } in
    let turn = c.in_ok-turn_at_rest.ensures in
    record {
      rest = still_at_rest c.args.stage.now.shared.now c.args.stage.now.trace.now.rounds (c.args.round + 1) c.args.callers.now c.turn_at_rest.new.callers
          _ c.requires.rest turn.passes turn.losses turn.turns.rested.go_on;
      ends = record {
        rested = rested;
        turned = c.turn_at_rest.new.self;
        before = record { manager_is = c.in_ok-rest.ensures.same; turns_are = ap (λ (log : Gathered). log.history.turns) c.in_ok-rest.ensures.same.log_is; transcript_is = refl; rests_are = c.in_ok-rest.ensures.ok };
        turn = rw c.after.ensures at turn.turns;
        after = record { manager_is = c.in_ok-rest-2.ensures.same; turns_are = ap (λ (log : Gathered). log.history.turns) c.in_ok-rest-2.ensures.same.log_is; transcript_is = refl; rests_are = c.in_ok-rest-2.ensures.ok };
      };
    }
