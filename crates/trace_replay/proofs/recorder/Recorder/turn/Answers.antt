use Rattle.trace_replay.proofs.Names.{Continues, Recorder, [], on_ok_weaker, refl, ◌∷◌}
use Rattle.trace_replay.proofs.RecordingLemmas.{advances}
use Rattle.trace_replay.proofs.recorder.Recorder.turn.Goals as goal

pub returns : goal.returns
returns g c =
    let made = rw c.in-Ok.is at c.turn.follows.holds-at-none in
    let now : Recorder g.row.C.Denot = record { manager = c.turn.follows.lender-at-none; transcript = c.add.new.self } in
    on_ok_weaker {Q = Continues g.C.Chain.stands g.C.Chain.events g.C.Chain.kept c.args.shared.now (c.args.tick ∷ []) c.args.self.now now} _ (λ there. record {
      advances = advances c.requires.mine made.0 (rw made.1 at c.in_ok-add.ensures) there refl (λ config turns is. is) made.2;
      back_is = made.2.back_is;
      released_is = made.2.released_is;
      classes_are = record { as_many = made.2.buffers.gave.as_many; each = λ i old new was is. (made.2.buffers.gave.each i old new was is).released_is };
    }) (rw c.log.ensures at c.check.ensures)
