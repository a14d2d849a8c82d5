use Rattle.permit_ring.proofs.{arith, ℕ, ◌+◌, ◌%◌, sym, ap, ap₂, ◌∙◌, length_push, Finished, keeper_memo, add-mod_right, mod-add-mod, hand_reaped, in_front}
use Rattle.permit_ring.proofs.keeper.Keeper.reap.Goals as goal

pub exchange-old-requires : goal.exchange-old-requires
exchange-old-requires g c =
    let mine = c.requires.mine in
    let saw = c.read_mark-mark.ensures in
    let reaped = ap (λ keeper. keeper.reaped) saw.same ∙ mine.reaped_is in
    let hit = saw.saw.0 (c.if-mark-self.false ∙ ap (λ (t : ℕ). t + 1) reaped) in
    let place = ap₂ ◌%◌ (sym mine.reaped_is) mine.keeping.ring_is.slots_are ∙ sym mine.next_is in
    (saw.place.0 ∙ mine.keeping.at_table, (Finished hit.0, in_front (ap (λ me. me.1) hit.2) place))

pub returns-clause-mine : goal.returns-clause-mine
returns-clause-mine g c =
    let mine = c.requires.mine in
    let saw = c.read_mark-mark.ensures in
    let keeper = c.args.self.now in
    let reaped = ap (λ keeper. keeper.reaped) saw.same ∙ mine.reaped_is in
    let hit = saw.saw.0 (c.if-mark-self.false ∙ ap (λ (t : ℕ). t + 1) reaped) in
    let hand = hand_reaped mine.in_hand {at = keeper.next} (rw (mine.account, add-mod_right) mine.next_is) in
    let past = mod-add-mod keeper.reaped c.args.ring.now.positions 1 in
    let notes = length_push (keeper_memo keeper).notes (g.F.Freight.note hit.0) in
    grind (arith, mine, saw.same, hit, c.exchange-old.ensures, c.turn.ensures, hand, c.after-self.ensures, past, notes)
