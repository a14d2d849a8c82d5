use Rattle.event_chain.proofs.Names.{TakesRoom, ◌≡◌, ◌∙◌, ap, sym, true, false, refl, rules, arith, nat_tests, common_steps, carried_room, option_map, bare, Some, event_at, ending_at, comes, here, with_context, AtMode, InWindow, AtSend, Ending, stands_alone}
use Rattle.event_chain.proofs.WayLemmas.{behind_comes, none_of, went_early}
use Rattle.event_chain.proofs.way.Way.take.Goals as goal

pub returns-in-Held-clause-behind : goal.returns-in-Held-clause-behind
returns-in-Held-clause-behind g c config start moments behind =
    let item = here g.B.Parcel.held c.args.tick c.args.item in
    let at = behind.at in
    let early = c.in-Held.ensures.held in
    let ends = c.in-Held.ensures.ending config moments item refl at.gate in
    behind_comes behind item _ false ends refl (grind (arith, nat_tests, early)) (c.gate.ensures.stands config moments item refl at.gate) at.windows
    (went_early config _ _ (omega (arith, early)) behind.went)
    (c.tell.ensures config moments _ behind.witness (ap (option_map bare) ends ∙ ap Some (sym c.ended.ensures)))

pub returns-in-Bypass-clause-behind : goal.returns-in-Bypass-clause-behind
returns-in-Bypass-clause-behind g c config start moments behind =
    let item = here g.B.Parcel.held c.args.tick c.args.item in
    let at = behind.at in
    let left = c.leave-fate.ensures.leaves.ends config start moments AtSend behind.went at.ends.endings_end (record { filters = λ step from before. grind (arith, nat_tests, from, before); sending = omega arith }) in
    let one : Ending = record { item = with_context c.in-Bypass.context item; first = AtSend; fate = c.leave-fate.result } in
    let ends : ending_at config moments (comes item) ≡ Some one = rw left.fate (c.in-Bypass.ensures.ending config moments item refl at.gate) in
    behind_comes behind item one false ends refl refl (c.gate.ensures.stands config moments item refl at.gate) at.windows left.went
    (c.tell-in-Bypass.ensures config moments _ behind.witness (ap (option_map bare) ends ∙ ap Some (sym c.ended-in-Bypass.ensures)))

pub returns-then-aggregates-clause-behind : goal.returns-then-aggregates-clause-behind
returns-then-aggregates-clause-behind g c config start moments behind =
    let item = here g.B.Parcel.held c.args.tick c.args.item in
    let at = behind.at in
    let one : Ending = record { item = with_context c.in-Pass.context item; first = AtMode; fate = InWindow } in
    let ends : ending_at config moments (comes item) ≡ Some one =
    grind (arith, c.in-Pass.ensures.ending config moments item refl at.gate, c.aggregates.ensures.configured config moments _ at.windows, c.if-aggregates.true) in
    behind_comes behind item one true ends refl refl (c.gate.ensures.stands config moments item refl at.gate)
    (c.join.ensures.stands config moments at.windows at.ends) (went_early config _ _ (omega arith) behind.went)
    (c.tell-then-aggregates.ensures config moments _ behind.witness (ap (option_map bare) ends ∙ ap Some (sym c.ended-then-aggregates.ensures)))

pub returns-then-aggregates-clause-moved : goal.returns-then-aggregates-clause-moved
returns-then-aggregates-clause-moved g c =
    let all = c.join.ensures in
    let sends : TakesRoom g.B.Parcel.held 1 c.args.back.now.items c.join.new.back.items c.args.out.now c.args.out.now =
    grind (arith, common_steps, ap (carried_room g.B.Parcel.held) all.parcels.back) in
    search (rules, all.on, sends)

pub returns-else-aggregates-clause-behind : goal.returns-else-aggregates-clause-behind
returns-else-aggregates-clause-behind g c config start moments behind =
    let item = here g.B.Parcel.held c.args.tick c.args.item in
    let at = behind.at in
    let leaves = c.leave-fate-else-aggregates.ensures.leaves in
    let left = leaves.ends config start moments AtMode behind.went at.ends.endings_end (record { filters = λ step from before. grind (arith, nat_tests, from, before); sending = omega arith }) in
    let configured = c.aggregates.ensures.configured config moments _ at.windows in
    let one : Ending = record { item = with_context c.in-Pass.context item; first = AtMode; fate = c.leave-fate-else-aggregates.result } in
    let ends : ending_at config moments (comes item) ≡ Some one =
    grind (arith, c.in-Pass.ensures.ending config moments item refl at.gate, configured, c.if-aggregates.false, left.fate) in
    behind_comes behind item one true ends refl (grind (arith, nat_tests, leaves.late)) (c.gate.ensures.stands config moments item refl at.gate)
    (stands_alone config moments _ _ one.item (none_of (event_at config item.event).aggregate (sym configured ∙ c.if-aggregates.false)) at.windows) left.went
    (c.tell-else-aggregates.ensures config moments _ behind.witness (ap (option_map bare) ends ∙ ap Some (sym c.ended-else-aggregates.ensures)))

pub leave-fate-requires-else-aggregates-clause-take : goal.leave-fate-requires-else-aggregates-clause-take
leave-fate-requires-else-aggregates-clause-take g c =
    let left = c.requires.left in
    let has = left.places.has c.args.item.event.0 c.requires.event in
    grind (arith, common_steps, has, c.requires.short, left.can, left.room)
