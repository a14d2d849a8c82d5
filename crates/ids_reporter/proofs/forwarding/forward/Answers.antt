use Rattle.ids_reporter.proofs.Names.{ap, ◌∙◌, feeders_of, taken_of, made_in}
use Rattle.ids_reporter.proofs.ForwardLemmas.{all_indexes, merged}
use Rattle.ids_reporter.proofs.forwarding.forward.Goals as goal

pub returns : goal.returns
returns g c =
    let sources = c.args.sources.now in
    let rest = c.take_rest.ensures in
    let run = c.run-feeders.ensures in
    let welcomed = c.welcome_all.ensures in
    let new = ap feeders_of c.in_ok-outlet.ensures.drain ∙ ap made_in c.in_ok-relay.ensures.is_new in
    let all = all_indexes _ sources c.run-feeders.result.items c.welcome_all.new.self c.take_rest.new.self.drain run.feeders run.all
    (rest.works.1 ∙ welcomed.same.0 ∙ run.works.1 ∙ new) welcomed.back rest.works.2 rest.works.0.drain.in_order rest.all in
    record {
      in_order = rest.works.0.drain.in_order;
      all = all;
      bytes = rw c.in_ok-outlet-2.was at rest.works.0.out;
      merged = merged sources (taken_of c.take_rest.new.self.drain) c.requires.apart all;
    }
