use Rattle.std.proofs.Common.{inr, rules}
use Rattle.test_reports.proofs.PassesLemmas.{all_left, one_called, pass_at}
use Rattle.test_reports.proofs.steps.Run.call.Goals as goal

pub call-requires : goal.call-requires
call-requires g c =
    let all = all_left c.requires.passes_are c.number-caller.result (search rules) in
    search (rules, pass_at all c.number-caller.result c.index_mut.result.now (search rules))

pub returns : goal.returns
returns g c =
    let all = all_left c.requires.passes_are c.number-caller.result (search rules) in
    record {
      manager_is = c.requires.manager_is;
      classes_are = c.requires.classes_are;
      passes_are = inr (one_called all c.number-caller.result c.index_mut.result.now c.call.new.pass (search rules) (search (rules, c.call.ensures)));
    }
