use Rattle.main_function.proofs.Names.{◌≡◌, ◌+◌, ◌∙◌, ◌++◌, ◌∷◌, [], ap, arith, common_steps, desk_memo, items_of, only_reaps, queue_positions}
use Rattle.main_function.proofs.TakingLemmas.{took_one}
use Rattle.main_function.proofs.taking.take_ready.Goals as goal

-- one item more, for which there is a place
pub loop-item-preserved : goal.loop-item-preserved
loop-item-preserved c =
    let was = c.loop-item.invariant in
    let did = c.in-Ok.ensures in
    let more : c.push_reserved.new.self.items ≡ c.loop-item.items.items ++ c.entry_of.result ∷ [] = c.push_reserved.ensures.items in
    let count = did.took.counts ∙ ap (λ n. n + 1) was.counts in
    record {
      mine = did.mine;
      within = did.took.within;
      took = rw more (took_one c.args.shared.now.terms (queue_positions c.args.shared.now.queue) (desk_memo c.args.desk.now) (desk_memo c.loop-item.desk)
          (desk_memo c.take.new.self) c.loop-item.items.items was.took c.entry_of.result (omega (arith, count, did.took.few))
          (rw c.entry_of.ensures (search did.admitted)) (rw c.entry_of.ensures did.took.told));
      counts = grind (arith, common_steps, count, more);
      same = did.same ∙ was.same;
      room = c.push_reserved.ensures.capacity ∙ was.room;
    }

-- no take brings a pass back
pub returns-clause-all_taken : goal.returns-clause-all_taken
returns-clause-all_taken c = λ all.
    let on = c.loop-item.invariant.took in
    let only = only_reaps (items_of c.loop-item.items.items) (desk_memo c.args.desk.now) in
    c.in_default.ensures.took.all_taken (rw (on.is, only.back_is) all)
