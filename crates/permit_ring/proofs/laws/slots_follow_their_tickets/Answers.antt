use Rattle.permit_ring.proofs.{arith, fate_of, logged_is_claimed, machine_holds, open_of, ring_of, one_turn_ahead}
use Rattle.permit_ring.proofs.laws.slots_follow_their_tickets.Goals as goal

pub returns : goal.returns
returns g c =
    let r = g.r.rule in
    let t = c.args.ticket in
    let permits = (ring_of r).permits in
    let turn = one_turn_ahead r in
    record {
      finished = λ memo is j x e from. (r.are_slots.each t from (omega (arith, logged_is_claimed r memo is j t x e, permits))).finished_home
          memo.number x (fate_of r memo is j t x e);
      held = λ memo is h.
          let out = ((ring_of r).seats.each memo.number).held_is_out t (machine_holds r memo is t h) in
          (r.are_slots.each t out.0 (omega (arith, out, permits))).held_out (open_of r memo is t h);
      offered = λ past below. (r.are_slots.each t (omega (arith, permits)) (omega arith)).offered_home past below;
      vacant = λ past below. (r.are_slots.each t (omega (arith, permits)) below).vacant_out past;
    }
