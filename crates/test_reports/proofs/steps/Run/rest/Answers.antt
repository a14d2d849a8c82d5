use Rattle.std.proofs.Common.{rules}
use Rattle.std.proofs.lemmas.List.{map-id}
use Rattle.test_reports.proofs.PassesLemmas.{all_left}
use Rattle.test_reports.proofs.steps.Run.rest.Goals as goal

pub rest-requires : goal.rest-requires
rest-requires g c = record {
  passes = record {
    shared = c.args.self.now.made.shared;
    is_manager = c.requires.manager_is;
    passes_are = rw (c.deref.ensures.value, map-id c.args.self.now.made.passes.items) (all_left c.requires.passes_are 0 (search rules));
  };
}
