use Rattle.idsm_api.proofs.Names.{◌+◌, ◌≤◌, length, rules, refl, ap, arith, length-map, Output, manager_shares, queue_seats, vec_capacity}
use Rattle.idsm_api.proofs.ClosingLemmas.{all_passes, counted, room_is}
use Rattle.idsm_api.proofs.manager.Manager.finish.Goals as goal

pub take_passes-requires-clause-room : goal.take_passes-requires-clause-room
take_passes-requires-clause-room c = omega (arith, c.requires.callers.all, c.requires.fit.room_for_all)

pub close-requires-clause-passes : goal.close-requires-clause-passes
close-requires-clause-passes c =
    rw (c.take_passes.ensures.passes, c.deref.ensures) (all_passes c.requires.fit c.requires.callers)

pub put-requires : goal.put-requires
put-requires c =
    let left = rw c.in-Ok.is at c.close.follows.holds-at-none in
    omega (arith, room_is c.requires.fit, c.requires.may.can.room, left.3.turned.keeps.out_is, ap length c.sent.ensures, ap (λ (out : Output). length out.sent + out.sent_left) left.1)

pub returns : goal.returns
returns c =
    let left = rw (c.deref.ensures, c.in-Ok.is, c.take_passes.ensures.passes) at c.close.follows.holds-at-none in
    let room : queue_seats (manager_shares c.args.self.now).queue ≤ vec_capacity c.close.new.passes =
    omega (arith, c.requires.fit.room_for_all, c.take_passes.ensures.room, c.close.ensures.room) in
    record {
      fit = assumption (left.0, c.requires.fit.most_is, c.requires.fit.classes_are, c.in-Ok.ensures.ok, room);
      within = search rules;
      made = record {
        may = c.requires.may;
        closed = left.3;
        quick = simp length-map at left.4;
        shares = refl;
        written = rw (c.sent.ensures, left.1) at c.put.ensures;
      };
      empty = search rules;
      answer = search rules;
      told = rw c.told_in.ensures refl;
      counts = counted c.args.callers.now.items c.in-Ok.totals (rw c.take_passes.ensures.passes at c.in-Ok.ensures.counts);
    }
