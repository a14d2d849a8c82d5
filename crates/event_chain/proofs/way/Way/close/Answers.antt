use Rattle.event_chain.proofs.Names.{Ending, here, AtThreshold, Some, ◌∙◌, ap, bare, ◌≡◌, ◌+◌, length, None, option_map, refl, sym, arith, nat_tests, rules, length_permutation, common_steps, closes, ending_at, stands_with_closing, Windowed, sum_by-IsPermutation}
use Rattle.event_chain.proofs.RoomLemmas.{given_short, message_room}
use Rattle.event_chain.proofs.WayLemmas.{behind_more, behind_silent}
use Rattle.event_chain.proofs.way.Way.close.Goals as goal

pub leave-fate-requires-clause-take : goal.leave-fate-requires-clause-take
leave-fate-requires-clause-take g c =
    let held = g.B.Parcel.held in
    let context = c.in-Some.item.context in
    let left = c.requires.left in
    let all = c.in-Some.ensures in
    let own = left.places.own c.args.event.0 in
    let has = left.places.has c.args.event.0 c.requires.event in
    let short = given_short held context _ _ all.moved c.requires.short in
    let same = sum_by-IsPermutation (λ (parcel : g.row.B.Denot). 4 + length (held parcel)) _ _ all.moved in
    grind (arith, common_steps, all.item, own, has, short, message_room held context, same, left.room, left.can)

pub returns-in-Some-clause-behind : goal.returns-in-Some-clause-behind
returns-in-Some-clause-behind g c config start moments behind =
    let tick = c.args.tick in
    let event = c.args.event.0 in
    let at = behind.at in
    let all = c.in-Some.ensures in
    let left = c.leave-fate.ensures.leaves.ends config start moments AtThreshold behind.went at.ends.endings_end
    (record { filters = λ step from before. grind (arith, nat_tests, from, before); sending = omega arith }) in
    let one : Ending = record { item = here g.B.Parcel.held tick c.in-Some.item; first = AtThreshold; fate = c.leave-fate.result } in
    let ends : ending_at config moments (closes tick event) ≡ Some one = rw (left.fate, ← all.gives_over config moments _ at.windows) refl in
    behind_more behind (closes tick event) _ ends refl (λ e. grind (arith, nat_tests))
    (stands_with_closing config moments tick event c.args.self.now.gate at.gate) (all.stands_over config moments _ at.windows) left.went
    (c.tell.ensures config moments (closes tick event) behind.witness (ap (option_map bare) ends ∙ ap Some (sym c.ended.ensures)))

pub returns-in-None-clause-behind : goal.returns-in-None-clause-behind
returns-in-None-clause-behind g c config start moments behind =
    let tick = c.args.tick in
    let event = c.args.event.0 in
    let at = behind.at in
    let all = c.in-None.ensures in
    let none : ending_at config moments (closes tick event) ≡ None = rw (← all.gives_over config moments _ at.windows) refl in
    behind_silent behind g.met.W.Witness.silent (closes tick event) none (λ e. grind (arith, nat_tests))
    (stands_with_closing config moments tick event c.args.self.now.gate at.gate) (all.stands_over config moments _ at.windows)

pub returns-in-Some-clause-moved : goal.returns-in-Some-clause-moved
returns-in-Some-clause-moved g c =
    let windows : Windowed c.args.tick c.args.self.now.windows c.close_due.new.self = search (rules, c.in-Some.ensures) in
    let left = c.leave-fate.ensures.leaves in
    search (rules, windows, left.one, left.counted, left.has)

pub leave-fate-requires-clause-back : goal.leave-fate-requires-clause-back
leave-fate-requires-clause-back g c = grind (arith, common_steps, length_permutation _ _ c.in-Some.ensures.moved, c.requires.left.handed)

pub returns-in-None-clause-moved : goal.returns-in-None-clause-moved
returns-in-None-clause-moved g c =
    let windows : Windowed c.args.tick c.args.self.now.windows c.close_due.new.self = search (rules, c.in-None.ensures) in
    search (rules, windows)
