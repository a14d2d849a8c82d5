use Rattle.trace_replay.proofs.Names.{Closes, Recorder, map, on_ok_weaker, pass_memo, refl}
use Rattle.trace_replay.proofs.RecordingLemmas.{advances}
use Rattle.trace_replay.proofs.recorder.Recorder.close.Goals as goal

pub returns : goal.returns
returns g c =
    let made = rw c.in-Ok.is at c.close.follows.holds-at-none in
    let now : Recorder g.row.C.Denot = record { manager = c.close.follows.lender-at-none; transcript = c.add.new.self } in
    on_ok_weaker {Q = Closes g.C.Chain.stands g.C.Chain.events g.C.Chain.kept c.args.shared.now c.args.tick (map pass_memo c.args.passes.now.items) c.args.self.now now} _ (λ there. record {
      advances = advances c.requires.mine made.0 (rw made.1 at c.in_ok-add.ensures) there refl (λ config turns is. is) made.3.turned;
      closed = made.3;
      gathered = made.3.turned.noted_is there;
    }) (rw c.log.ensures at c.check.ensures)
