use Rattle.buffer_classes.proofs.{◌≡◌, ◌∙◌, ◌<◌, length, refl, sym, arith, at_index, some, get_elem?, givers_of, IsHisSeat, some-injective, all_below, below_more, class_there, giver_there, givers_below, held_claimant, still}
use Rattle.buffer_classes.proofs.givers.Givers.hold.Goals.{After-index_mut-in-loop-class as In-Loop}
use Rattle.buffer_classes.proofs.givers.Givers.hold.Goals as goal

low : (c : In-Loop) → c.loop-class.class < length (givers_of c.loop-class.self)
low c = omega (arith, c.loop-class-test.true, c.len-class-end.ensures, c.requires.mine.all, c.requires.seat.all, c.loop-class.invariant.1.as_many)

-- the seat of this class, and as it was before
here : (c : In-Loop) → get_elem? c.loop-class.seat.seats.items c.loop-class.class ≡ some c.index_mut-in-loop-class.result.now
here c = at_index c.loop-class.seat.seats.items c.loop-class.class _ (omega (arith, c.loop-class-test.true, c.len-class-end.ensures, c.loop-class.invariant.2.as_many)) c.index_mut-in-loop-class.ensures.value

his : (c : In-Loop) → IsHisSeat c.args.seat.now.number c.args.seat.now.claims c.index.result.now c.index_mut-in-loop-class.result.now
his c = c.requires.seat.each _ _ _ (class_there c.loop-class.invariant.0 c.loop-class.class (low c) c.index.ensures) (still _ c.loop-class.invariant.2 (here c))

pub hold-requires-clause-mine : goal.hold-requires-clause-mine
hold-requires-clause-mine c = giver_there c.loop-class.invariant.0 c.loop-class.class (low c) c.index.ensures c.index_mut.ensures.value

pub hold-requires-clause-seat : goal.hold-requires-clause-seat
hold-requires-clause-seat c = (his c).is_seat.is_seat

pub hold-requires-clause-idle : goal.hold-requires-clause-idle
hold-requires-clause-idle c = (his c).is_seat.is_idle

pub loop-class-preserved : goal.loop-class-preserved
loop-class-preserved c =
    let d = (goal.at.loop-class-preserved c).After-index_mut-in-loop-class in
    let is = c.loop-class.invariant in
    let was = still _ is.2 (here d) in
    let givers = givers_below is.0 c.loop-class.class (low d) c.index.ensures is.1 c.index_mut.ensures.value refl refl c.hold.ensures.mine
    (λ other at. rw (← some-injective _ other (sym was ∙ at)) c.hold.ensures.did) in
    (givers.0, givers.1, below_more c.loop-class.class _ c.hold.new.seat (here d) c.hold.ensures.held is.2, is.3, is.4, is.5)

pub returns-clause-told : goal.returns-clause-told
returns-clause-told c = all_below c.loop-class.invariant.1 (omega (arith, c.loop-class-test.false, c.len-class-end.ensures, c.requires.mine.all, c.requires.seat.all))

pub returns-clause-held : goal.returns-clause-held
returns-clause-held c =
    let is = c.loop-class.invariant in
    held_claimant _ _ c.requires.seat (all_below is.2 (omega (arith, c.loop-class-test.false, c.len-class-end.ensures))) is.3 is.4 is.5
