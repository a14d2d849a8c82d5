use Rattle.std.proofs.Common.{rules, tests}
use Rattle.std.proofs.lemmas.Iterator.{YieldsList-from_slice}
use Rattle.std.proofs.lemmas.Iterator.Consumers.{count_from_yields_List, YieldsList-from_filter_map}
use Rattle.internal_events.proofs.head_list.HeadList.len.Goals as goal

pub returns : goal.returns
returns c = rw (← c.self.view_is) (count_from_yields_List c.filter_map.result _ c.count.ensures.ran
    (YieldsList-from_filter_map _ (λ head. head) (YieldsList-from_slice c.self.inside.heads cc)
    c.filter_map.ensures.closure (λ x r q k. search (rules, tests))))
