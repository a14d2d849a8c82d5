-- With one more turn each list of the chain only has newer elements beside those of the history.
use Rattle.chain_spec.proofs.Names.{◌+◌, ◌≡◌, Bool, List, [], ◌∷◌, ◌++◌, length, sym, ap, append_assoc, append-nil, length-append, refl, arith, option_to_list, Turn, Parts, sent, held, messages, handed_on, held_count, is_held, Sent, reaches, items_where, Ending, BeginsWith, EndsWith, Grows, GrowsAtEnd, Item, message_of, spelled, Moment, moments, turn_moments, with_all, placed, map, inl, inr, endings, ending_at}
use Rattle.ids_frame.specs.Spelling.{spelling}
use Rattle.chain_spec.proofs.StageLemmas.{cases_Option, filter_grows, map_grows}

-- the bytes of a longer list of items
spelled-append : (config : Parts) (further items : List Item) → BeginsWith (spelled config (further ++ items)) (spelled config items)
spelled-append config [] items = record { further = []; whole = sym (append-nil (spelled config items)) }
spelled-append config (item ∷ further) items =
    let begins = spelled-append config further items in
    record { further = begins.further ++ spelling (message_of config item); whole = grind (arith, begins.whole, append_assoc) }

-- a list with an element more
pub one_more : {A : Type 0} (x : A) (xs : List A) → EndsWith (x ∷ xs) xs
one_more x xs = record { further = x ∷ []; whole = refl }

-- the endings are those that have places
pub endings_placed : (config : Parts) (moments : List Moment) → map (λ one. one.1) (placed (ending_at config) moments) ≡ endings config moments
endings_placed config [] = refl
endings_placed config (moment ∷ before) = elim (cases_Option (ending_at config before moment))
    [ inl none ↦ rw none (endings_placed config before) | inr is ↦ rw is.1 (ap (λ past. is.0 ∷ past) (endings_placed config before)) ]

module _ (config : Parts) where
  -- the endings of more moments
  endings_after : (more before : List Moment) → EndsWith (endings config (with_all before more)) (endings config before)
  endings_after [] before = record { further = []; whole = refl }
  endings_after (moment ∷ more) before =
      let ends = endings_after more (moment ∷ before) in
      record { further = ends.further ++ option_to_list (ending_at config before moment); whole = rw (append_assoc, ← ends.whole) refl }

  pub endings_grow : Grows (λ turns. endings config (moments config turns))
  endings_grow turn before = endings_after (turn_moments config turn) (moments config before)

  items_grow : (test : Ending → Bool) → Grows (λ turns. items_where test (endings config (moments config turns)))
  items_grow test turn before = map_grows _ _ _ (filter_grows test _ _ (endings_grow turn before))

  pub messages_grow : GrowsAtEnd (messages config)
  messages_grow turn before =
      let grows = items_grow (reaches Sent) turn before in rw grows.whole (spelled-append config grows.further (sent config (moments config before)))

  pub held_counted : (turn : Turn) (before : List Turn)
      → held_count config (turn ∷ before) ≡ held_count config before + handed_on config (turn ∷ before)
  held_counted turn before =
      let grows = items_grow (is_held config) turn before in
      omega (arith, ap length grows.whole, length-append grows.further (held config (moments config before)))

-- every list of the chain grows
pub ruleset growth_laws = (endings_grow, filter_grows, map_grows, messages_grow, one_more, held_counted)
