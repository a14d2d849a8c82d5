use Rattle.idsm_api.proofs.Names.{length, rules, refl, ap, arith, reverse}
use Rattle.idsm_api.proofs.ClosingLemmas.{room_is}
use Rattle.idsm_api.proofs.QuietLemmas.{tells_quiet}
use Rattle.idsm_api.proofs.manager.Manager.step.Goals as goal

pub put-requires : goal.put-requires
put-requires c = omega (arith, room_is c.requires.fit, c.requires.may.can.room, c.in-Ok.ensures.room, ap length c.sent.ensures)

pub returns : goal.returns
returns c =
    let left = rw (c.deref.ensures, c.in-Ok.is) at c.turn.follows.holds-at-none in
    record {
      fit = assumption (left.0, c.requires.fit.most_is, c.requires.fit.classes_are, c.requires.fit.none_back, c.requires.fit.room_for_all);
      made = record {
        may = c.requires.may;
        turned = left.2;
        quick = left.3;
        same = refl;
        written = rw (c.sent.ensures, left.1) at c.put.ensures;
        quiet_is = λ config turns is.
            tells_quiet left.2.turn ((rw c.chain.ensures at c.closes-closes.ensures) config (reverse turns) is.chain_stands) c.is_quiet.ensures left.2.head_is left.2.taken_is left.2.tick_is;
      };
      answer = search rules;
      told = rw c.told_in.ensures refl;
      within = search rules;
    }
