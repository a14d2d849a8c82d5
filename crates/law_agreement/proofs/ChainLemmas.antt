-- The whole chain adds no weight, from the moments of a history to the messages that are sent.
use Rattle.law_agreement.proofs.Names.{◌≤◌, List, [], ◌∷◌, length, length-append, sum_by, arith, Parts, sent, Item, message_of, spelled, spelling, Moment, weight, moment_weight}
use Rattle.std.proofs.lemmas.List.Sums.{sum_by-cons}
use Rattle.law_agreement.proofs.WindowLemmas.{moments_weigh}

-- a message has at most as many bytes as its item weighs
pub message_weighs : (config : Parts) (item : Item) → length (spelling (message_of config item)) ≤ weight item
message_weighs config item = grind (arith, length-append)

-- all messages of items have at most as many as the items weigh
spelled_weighs : (config : Parts) (items : List Item) → length (spelled config items) ≤ sum_by weight items
spelled_weighs config [] = omega arith
spelled_weighs config (item ∷ before) =
    let own = length-append (spelled config before) (spelling (message_of config item)) in
    omega (arith, own, message_weighs config item, spelled_weighs config before, sum_by-cons weight item before)

pub sent_weighs : (config : Parts) (moments : List Moment) → length (spelled config (sent config moments)) ≤ sum_by moment_weight moments
sent_weighs config moments = omega (arith, spelled_weighs config (sent config moments), moments_weigh config moments)
