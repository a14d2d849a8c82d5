use Rattle.chain_plain.proofs.Names.{◌≡◌, room_of, rules, [], ◌∷◌, ◌++◌, arith, newest_first, common_steps, recursion_from_All, turn_with, CanTake}
use Rattle.chain_plain.proofs.TurningLemmas.{items_fit, told_fits}
use Rattle.chain_plain.proofs.retaking.retake.Goals as goal

-- no turn was taken yet
pub loop-head-init : goal.loop-head-init
loop-head-init g c =
    let fit = recursion_from_All (CanTake (g.C.Chain.events c.args.chain)) c.args.history.now.turns c.requires.turns in
    ([], grind (arith, common_steps, c.walk-turns.ensures, c.requires.kept, c.requires.ready, fit))

-- one turn more was taken
pub loop-head-preserved : goal.loop-head-preserved
loop-head-preserved g c =
    let before = c.loop-head.invariant in
    let turn = turn_with c.in-Some.head c.in-Some.entries in
    let left : c.loop-head.turns ≡ turn ∷ c.pop_front.new.self = grind (arith, common_steps) in
    let fit = rw left at before.1.turns_fit in (
      before.0 ++ turn ∷ [],
      record {
        whole = grind (arith, common_steps, before.1.whole);
        stands = λ config stood order. let parts = rw (newest_first before.0 turn) at order in
            c.take.ensures.stands config before.0 (before.1.stands config stood parts.1) parts.0;
        all_events = grind (arith, before.1.all_events);
        kept = c.take.ensures.kept;
        ready = grind (arith, before.1.all_events);
        turns_fit = fit.1;
      },
    )

-- the lent items fit, since they tell what the items tell
pub judge-requires-clause-items : goal.judge-requires-clause-items
judge-requires-clause-items g c =
    rw c.loop-head.invariant.1.all_events (items_fit _ _ _ _ c.lend.ensures.items (told_fits _ _ _ c.requires.items))

pub judge-requires-clause-back : goal.judge-requires-clause-back
judge-requires-clause-back g c =
    grind (arith, c.requires.items.few, c.lend.ensures, c.loop-head.invariant.1)

pub judge-requires-clause-out : goal.judge-requires-clause-out
judge-requires-clause-out g c =
    let end = c.loop-head.invariant in
    let told = told_fits _ _ _ c.requires.items in
    (g.met.C.Chain c.lifetimes (search (rules, c.well_formed))).bounded c.loop-head.chain c.lend.new.places.items (room_of c.args.out.now)
    (rw end.1.all_events (items_fit _ _ _ _ c.lend.ensures.items told)) end.1.kept (rw (c.lend.ensures.len, end.1.all_events) c.requires.out)

-- the chain took the history, and then this turn
pub returns-clause-took : goal.returns-clause-took
returns-clause-took g c config stood order later =
    let turns = c.args.history.now.turns in
    let end = c.loop-head.invariant in
    let all : turns ≡ end.0 = grind (arith, common_steps, end.1.whole) in
    let stands : g.C.Chain.stands c.loop-head.chain config turns = rw all (end.1.stands config stood (rw all at order)) in
    rw (← c.lend.ensures.items) (c.judge.ensures.stands config turns stands later, c.judge.ensures.sends config turns stands later)
