use Rattle.buffer_classes.proofs.{◌∷◌, ◌∙◌, arith, append_assoc, length_push, admitted_before, admitted_last}
use Rattle.buffer_classes.proofs.giver.Giver.put_late.Goals as goal

pub refill-requires-clause-admitted : goal.refill-requires-clause-admitted
refill-requires-clause-admitted c = λ _. admitted_last _ _ _ c.in-Some.ensures.items c.loop-self.invariant.0.late_are

pub loop-self-preserved : goal.loop-self-preserved
loop-self-preserved c =
    let is = c.in-Some.ensures.items in
    let was = c.loop-self.invariant in
    let did = c.refill.ensures in
    let late = admitted_before _ c.pop.new.self.items c.in-Some.buf is was.0.late_are in (
      grind (arith, was.0, late, did, c.pop.ensures),
      record {
        memo_is = did.told ∙ was.1.memo_is;
        account = grind (arith, did, is, length_push c.pop.new.self.items c.in-Some.buf, was.1.account);
        gone = c.in-Some.buf ∷ was.1.gone;
        late_is = rw (is, append_assoc) at was.1.late_is;
        number_is = was.1.number_is;
      },
    )
