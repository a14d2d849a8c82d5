use Rattle.std.proofs.Common.{rules, tests, ◌≡◌, ◌∙◌, sym, subst}
use Rattle.std.specs.List.{slice_get}
use Rattle.std.proofs.lemmas.Iterator.Adapters.{option_map_id}
use Rattle.std.proofs.lemmas.Iterator.{YieldsList-from_slice}
use Rattle.std.proofs.lemmas.Iterator.Consumers.{nth_from_yields_List, YieldsList-from_filter_map}
use Rattle.internal_events.proofs.head_list.HeadList.get.Goals as goal

pub returns : goal.returns
returns c = subst (λ heads. c.nth.result ≡ slice_get heads c.args.i) c.self.view_is
    (sym (option_map_id c.nth.result) ∙ nth_from_yields_List c.nth.result _ c.args.i c.nth.ensures.ran
    (YieldsList-from_filter_map _ (λ head. head) (YieldsList-from_slice c.self.inside.heads cc)
    c.filter_map.ensures.closure (λ x r q k. search (rules, tests))))
