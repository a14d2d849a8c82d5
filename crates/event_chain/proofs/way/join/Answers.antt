use Rattle.event_chain.proofs.Names.{◌≤◌, All-from_recursion, HandsBack, option_to_list, endings, reaches, InWindow}
use Rattle.event_chain.proofs.HandsLemmas.{hands_kept}
use Rattle.event_chain.proofs.RestLemmas.{items_end}
use Rattle.event_chain.proofs.way.join.Goals as goal

pub returns-clause-stands : goal.returns-clause-stands
returns-clause-stands g c config before stands ends =
    rw (c.let_through-item.ensures.item c.args.tick) at (c.arrive-spare.ensures.stands_over config before _ stands (items_end (reaches InWindow) _ (endings config before) ends.endings_end)
    (All-from_recursion (λ closed. closed ≤ c.args.tick) _ (ends.closings_end c.let_through-item.result.event.0)))

pub returns-clause-parcels : goal.returns-clause-parcels
returns-clause-parcels g c =
    let through = c.let_through-item.ensures in
    let hands : HandsBack (option_to_list c.let_through-item.result.context) _ _ c.let_through-item.new.back.items _ =
    record { further = option_to_list c.arrive-spare.result; back = c.give_back.ensures.items; same = c.arrive-spare.ensures.moved } in
    hands_kept c.args.context c.args.item.context through.back (rw through.context at hands)
