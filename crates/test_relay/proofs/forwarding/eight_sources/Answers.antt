use Rattle.ids_reporter.proofs.Names.{rules}
use Rattle.ids_reporter.proofs.RunLemmas.{small_more}
use Rattle.test_relay.proofs.SourceLemmas.{apart_next, known_more}
use Rattle.test_relay.proofs.forwarding.eight_sources.Goals as goal

pub loop-i-preserved : goal.loop-i-preserved
loop-i-preserved c =
    let was = c.loop-i.invariant in
    let sources = c.loop-i.sources.items in
    let next = c.in_ok-next.next in
    let one = c.in_ok-next.ensures.instance in
    let more = c.push_reserved.ensures.items in
    record {
      count = search rules;
      room = search rules;
      small = rw more (small_more sources next was.small c.in_ok-next.ensures.few);
      apart = rw more (apart_next sources next c.loop-i.i was.apart was.known one);
      known = rw more (known_more sources next c.loop-i.i was.known one);
    }
