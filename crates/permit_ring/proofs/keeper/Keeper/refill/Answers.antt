use Rattle.permit_ring.proofs.{arith, ◌+◌, refl, sym, ap, ◌∙◌, Empty, keeper_memo, first_slot, mod-add-mod, hand_length, in_front, one_more_filled, vacant_fit, turned_to}
use Rattle.permit_ring.proofs.keeper.Keeper.refill.Goals as goal

pub turn_hand-requires : goal.turn_hand-requires
turn_hand-requires g c = omega (arith, hand_length c.requires.mine.in_hand)

pub exchange-old-requires : goal.exchange-old-requires
exchange-old-requires g c =
    let mine = c.requires.mine in
    let turned = c.turn_hand.ensures in
    let front = turned_to mine.in_hand c.requires.vacant mine.vacancy_is (ap (λ me. me.1) turned.turned) in
    (turned.same.0 ∙ mine.keeping.at_table, (Empty, in_front front refl))

pub unreachable-requires : goal.unreachable-requires
unreachable-requires g c =
    let mine = c.requires.mine in
    let front = turned_to mine.in_hand c.requires.vacant mine.vacancy_is (ap (λ me. me.1) c.turn_hand.ensures.turned) in
    c.in_default.not-Empty (ap first_slot (sym c.exchange-old.ensures.2 ∙ front))

pub turn_hand-requires-2 : goal.turn_hand-requires-2
turn_hand-requires-2 g c =
    let mine = c.requires.mine in
    let front = turned_to mine.in_hand c.requires.vacant mine.vacancy_is (ap (λ me. me.1) c.turn_hand.ensures.turned) in
    vacant_fit mine.in_hand c.requires.vacant mine.vacancy_is (rw front at (ap (λ me. me.1) c.exchange-old.ensures.3))

pub returns-clause-mine : goal.returns-clause-mine
returns-clause-mine g c =
    let mine = c.requires.mine in
    let put = c.exchange-old.ensures in
    let first = c.turn_hand.ensures in
    let last = c.turn_hand-2.ensures in
    let front = turned_to mine.in_hand c.requires.vacant mine.vacancy_is (ap (λ me. me.1) first.turned) in
    let hand = one_more_filled mine.in_hand c.requires.vacant mine.vacancy_is (rw front at (ap (λ me. me.1) put.3))
    c.requires.admitted (ap (λ me. me.1) last.turned) in
    let past = mod-add-mod ((keeper_memo c.args.self.now).offered + c.args.self.now.filled) c.args.ring.now.positions 1 in
    grind (arith, mine, put, first, last, hand, past, c.after-self.ensures)
