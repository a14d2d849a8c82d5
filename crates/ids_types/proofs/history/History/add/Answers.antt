use Rattle.std.proofs.Common.{ap, rules}
use Rattle.ids_types.specs.{plain_entry}
use Rattle.ids_types.specs.Turns.{Turns}
use Rattle.ids_types.proofs.HistoryLemmas.{turns_added, lies_added}
use Rattle.ids_types.proofs.history.History.add.Goals as goal
use Rattle.std.proofs.Common.{arith}
use Rattle.std.proofs.lemmas.Grind.{common_steps}

pub invariant_of-self : goal.invariant_of-self
invariant_of-self c =
    let h = c.self.inside in
    record {
      lies = lies_added h.numbers.items h.bytes.items h.entries.items h.rows.items c.self.invariant.lies
          _ (ap (λ (t : Turns). t.turns) c.self.view_is) c.requires.begun (plain_entry c.args.entry.now)
          c.len-last.result (search rules) c.index_mut.result.now c.index_mut.ensures.value
          c.row_of-row.new.numbers.items c.put_bytes.new.out.items c.push_reserved.new.self.items
          (search rules) (search rules) (search rules) (search rules);
      memory = search rules;
    }

pub returns-clause-turns : goal.returns-clause-turns
returns-clause-turns c = grind (arith, common_steps, turns_added)
