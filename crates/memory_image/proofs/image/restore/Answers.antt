use Rattle.memory_image.proofs.ImageLemmas.{◌≡◌, ◌++◌, ◌∷◌, [], reverse, sym, ap, subst, ◌∙◌, rules, arith, append_assoc, All, Row, Differ, IsKeepable, All-head, All-push, all_pairs_push, length-reverse, length-append, reverse-append, List, plain_row, AreKeepable, joined, common_steps, alone, apart, goes_on, read_more}
use Rattle.memory_image.proofs.image.restore.Goals as goal

pub returns-in_default-clause-none : goal.returns-in_default-clause-none
returns-in_default-clause-none c rows of =
    let so_far = c.loop-rest.invariant in
    let goes = goes_on (reverse c.loop-rest.memory.rows) rows c.loop-rest.rest.now so_far.keepable.each of.keepable.each
    (sym of.whole ∙ so_far.read) in
    elim goes.0 as (λ (more : List Row). All IsKeepable more → c.loop-rest.rest.now ≡ joined more → ⊥) [
      | [] ↦ λ keeps is. search rules
      | next ∷ others ↦ λ keeps is. c.in_default.ensures next (joined others) (All-head IsKeepable next others keeps) is
    ] goes.2 goes.3

pub returns-then-not-add-clause-none : goal.returns-then-not-add-clause-none
returns-then-not-add-clause-none c rows of =
    let so_far = c.loop-rest.invariant in
    let memory = c.loop-rest.memory in
    let row = plain_row c.in-Some.row in
    let done = reverse memory.rows in
    let after = c.in-Some.after.now in
    let read = read_more done row c.args.image.now c.loop-rest.rest.now after so_far.read c.in-Some.ensures.1 in
    let goes = goes_on (done ++ row ∷ []) rows after (All-push IsKeepable done row so_far.keepable.each c.in-Some.ensures.0) of.keepable.each
    (sym of.whole ∙ read) in
    let are = subst AreKeepable (goes.1 ∙ append_assoc done (row ∷ []) goes.0) of.keepable in
    c.if-not-add.ensures so_far.stands.0 so_far.stands.1 (record {
      alone = alone memory.rows goes.0 row are.differ;
      room = omega (arith, so_far.room, are.few, length-append done (row ∷ goes.0), length-reverse memory.rows);
    })

pub loop-rest-preserved : goal.loop-rest-preserved
loop-rest-preserved c =
    let so_far = c.loop-rest.invariant in
    let memory = c.loop-rest.memory in
    let row = plain_row c.in-Some.row in
    let done = reverse memory.rows in
    let after = c.in-Some.after.now in
    let adds = c.if-not-add.ensures so_far.stands.0 so_far.stands.1 in
    let rows : reverse c.add.new.memory.rows ≡ done ++ row ∷ [] = ap (λ rows. reverse rows) adds.rows ∙ reverse-append (row ∷ []) memory.rows in
    record {
      room = adds.room ∙ so_far.room;
      keepable = rw rows (record {
        each = All-push IsKeepable done row so_far.keepable.each c.in-Some.ensures.0;
        differ = all_pairs_push Differ done row so_far.keepable.differ (apart memory.rows row adds.place.alone);
        few = grind (arith, common_steps, adds, so_far);
      });
      read = rw rows (read_more done row c.args.image.now c.loop-rest.rest.now after so_far.read c.in-Some.ensures.1);
      stands = (adds.items, adds.stands);
    }
