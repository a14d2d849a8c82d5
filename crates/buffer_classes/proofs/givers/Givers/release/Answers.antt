use Rattle.buffer_classes.proofs.{◌≡◌, ◌∙◌, ◌<◌, length, refl, sym, arith, at_index, at_length, some, get_elem?, giver_memo, givers_of, there, Some, some-injective, first_back, all_below, below_more, class_there, giver_there, givers_with, goes_on_as, freed_more, still}
use Rattle.buffer_classes.proofs.Names.{ClaimSeat}
use Rattle.std.specs.Vec.{with_item}
use Rattle.buffer_classes.proofs.givers.Givers.release.Goals.{After-index_mut-in-loop-class as In-Loop}
use Rattle.buffer_classes.proofs.givers.Givers.release.Goals as goal

low : (c : In-Loop) → c.loop-class.class < length (givers_of c.loop-class.self)
low c = omega (arith, c.loop-class-test.true, c.len-class-end.ensures, c.requires.mine.all, c.requires.held.held.all, c.loop-class.invariant.1.as_many)

low_seat : (c : In-Loop) → c.loop-class.class < length c.loop-class.seat.seats.items
low_seat c = omega (arith, c.loop-class-test.true, c.len-class-end.ensures, c.loop-class.invariant.2.as_many)

-- the seat of this class, and its giver
here : (c : In-Loop) → get_elem? c.loop-class.seat.seats.items c.loop-class.class ≡ some c.index_mut-in-loop-class.result.now
here c = at_index c.loop-class.seat.seats.items c.loop-class.class _ (low_seat c) c.index_mut-in-loop-class.ensures.value

giver : (c : In-Loop) → get_elem? (givers_of c.loop-class.self) c.loop-class.class ≡ some c.index_mut.result.now
giver c = at_index (givers_of c.loop-class.self) c.loop-class.class _ (low c) c.index_mut.ensures.value

first : (c : In-Loop) → first_back (giver_memo c.index_mut.result.now).back ≡ Some (c.requires.held.memos c.loop-class.class)
first c = c.requires.held.first c.loop-class.class _ (still _ c.loop-class.invariant.1 (giver c))

pub release-requires : goal.release-requires
release-requires c =
    let its = c.requires.held.held.each c.loop-class.class _ (still _ c.loop-class.invariant.2 (here c)) in
    record { mine = giver_there c.loop-class.invariant.0 c.loop-class.class (low c) c.index.ensures c.index_mut.ensures.value; held = record { memo = c.requires.held.memos c.loop-class.class; is_first = first c; held = its.held } }

pub loop-class-preserved : goal.loop-class-preserved
loop-class-preserved c =
    let d = (goal.at.loop-class-preserved c).After-index_mut-in-loop-class in
    let is = c.loop-class.invariant in
    let i = c.loop-class.class in
    let did = c.release.ensures in
    let its = c.requires.held.held.each i _ (still _ is.2 (here d)) in
    let class_at = class_there is.0 i (low d) c.index.ensures in
    let now : ClaimSeat = record c.loop-class.seat { seats = with_item c.loop-class.seat.seats i c.release.new.seat } in
    let gone = rw (← is.4, ← is.5) at (goes_on_as {class = c.index.result.now} its (first d) did.did did.seat did.idle) in (
      givers_with is.0 i (low d) c.index.ensures refl refl did.mine,
      freed_more c.loop-class.seat now i c.release.new.seat refl (low_seat d) _ c.release.new.self (giver d) did.did is.1,
      below_more i _ c.release.new.seat (here d) (λ class at. rw (← some-injective _ class (sym class_at ∙ at)) gone) is.2,
      is.3,
      is.4,
      is.5,
    )

pub returns-clause-seat : goal.returns-clause-seat
returns-clause-seat c =
    let is = c.loop-class.invariant in
    let held = c.requires.held.held in
    let all = all_below is.2 (omega (arith, c.loop-class-test.false, c.len-class-end.ensures)) in
    record {
      are = is.0.are;
      all = is.2.as_many ∙ held.all;
      room = is.3 ∙ held.room;
      each = λ i class s at its.
          let old = there c.args.seat.now.seats.items i (omega (arith, at_length c.loop-class.seat.seats.items i s its, is.2.as_many)) in
          all.each i old.0 s old.1 its class at;
    }

pub returns-clause-told : goal.returns-clause-told
returns-clause-told c = all_below c.loop-class.invariant.1 (omega (arith, c.loop-class-test.false, c.len-class-end.ensures, c.requires.mine.all, c.requires.held.held.all))
