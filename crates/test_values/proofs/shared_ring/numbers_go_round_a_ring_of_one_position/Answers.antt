use Rattle.std.proofs.Common.{refl, ap, ◌∙◌, ◌++◌, length}
use Rattle.std.specs.Option.{option_to_list}
use lib.ListN.{get_elem?}
use Rattle.atomic_table.proofs.Lists.{at_last}
use Rattle.test_values.proofs.shared_ring.numbers_go_round_a_ring_of_one_position.Goals as goal

pub loop-number-init : goal.loop-number-init
loop-number-init g c =
    let made = c.in_ok-ring.ensures in
    let rest = c.pop.new.self.items in
    let seat = c.unwrap-seat.result in
    let items = c.pop.ensures.items ∙ ap (λ o. c.pop.new.self.items ++ option_to_list o) c.unwrap-seat.ensures in
    let is = made.seats_are.each (length c.pop.new.self.items) c.unwrap-seat.result
    (ap (λ l. get_elem? l (length c.pop.new.self.items)) items
    ∙ at_last c.pop.new.self.items c.unwrap-seat.result (length c.pop.new.self.items) refl) in
    (made.is_keeper, is.is_seat, is.is_idle, is.no_calls)
