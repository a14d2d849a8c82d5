-- For which turns a manager stands after one more.
use Rattle.main_function.proofs.Names.{◌≡◌, ℕ, ◌+◌, ◌≤◌, ◌^◌, List, [], ◌∷◌, ◌++◌, length, sum, ap, sym, arith, common_steps, sum_by_push, Entry, Turn, Parts, Buffer, DeskMemo, desk_memo, MakesTurn, Stands, Turned, AreSentBy, Sent, held_of, item_of, items_of, plain_item, reverse, Giver, append_cancel_left, ◌-◌, min, ◌∙◌, Manager, reverse-append, map-map, count_of, handed_of, last_tick}
use Rattle.chain_spec.proofs.GrowthLemmas.{held_counted}
use Rattle.main_function.proofs.ReportLemmas.{shows_more, turn_adds}

-- the last of numbers is at most as much as all of them
pub last_within : (before all : List ℕ) (x : ℕ) → all ≡ before ++ x ∷ [] → sum all ≤ 2 ^ 45 → x ≤ 2 ^ 45
last_within before all x is few = omega (arith, few, ap sum is, sum_by_push (λ n. n) before x)

-- a count that is capped goes on as the whole one would
capped : (cap a b c : ℕ) → c ≡ a + b → min (min a cap + b) cap ≡ min c cap
capped cap a b c is = omega arith

module _ (config : Parts) (turns : List Turn) (turn : Turn) where
  -- what these turns hold back, and what the last of them holds back beside it
  held_more : held_of config (turns ++ turn ∷ []) ≡ held_of config turns + handed_of config (turns ++ turn ∷ [])
  held_more = rw (reverse-append turns (turn ∷ [])) (held_counted config turn (reverse turns))

  -- what was sent and held back, with one turn more
  pub sent_more : (old new : Sent) (messages limited : ℕ) → AreSentBy config turns old
      → count_of config (turns ++ turn ∷ []) ≡ count_of config turns + messages → limited ≡ handed_of config (turns ++ turn ∷ [])
      → new.messages ≡ min (old.messages + messages) (2 ^ 64 - 1) → new.limited ≡ min (old.limited + limited) (2 ^ 64 - 1)
      → AreSentBy config (turns ++ turn ∷ []) new
  sent_more old new messages limited are sent held messages_are limited_are =
      let top = 2 ^ 64 - 1 in
      record {
        messages_are = rw (messages_are, are.messages_are) (capped top (count_of config turns) messages _ sent);
        limited_are = rw (limited_are, are.limited_are, held) (capped top (held_of config turns) (handed_of config (turns ++ turn ∷ [])) _ held_more);
      }

module _ {C L : Type 0} (stands : C → Parts → List Turn → Type 0) (config : Parts) (turns : List Turn) where
  -- the manager stands for one turn more where its chain does
  pub stands_more : (old new : Manager C L) (turn : Turn) (taken : List (Entry Buffer)) → Stands stands config old turns
      → (last_tick turns ≤ turn.head.tick → stands new.chain config (turns ++ turn ∷ [])) → old.head.tick ≤ turn.head.tick
      → MakesTurn old.positions (desk_memo old.desk) taken turn (desk_memo new.desk)
      → (desk_memo old.desk).offered ≡ old.positions + length (desk_memo old.desk).notes
      → new.positions ≡ old.positions → new.head.tick ≡ turn.head.tick → new.turns ≡ old.turns + 1
      → AreSentBy config (turns ++ turn ∷ []) new.sent → Stands stands config new (turns ++ turn ∷ [])
  stands_more old new turn taken is chain later makes offered positions last count sent =
      let shows = shows_more old.positions (desk_memo old.desk) (desk_memo new.desk) turn taken makes turns offered is.reports_show in
      grind (arith, common_steps, chain, is, later, shows, positions, last, count, sent)

module _ {C L : Type 0} {stands : C → Parts → List Turn → Type 0} {noted : L → Turn → L → Type 0} {kept : C → List Buffer} {tick : ℕ}
    {desk : DeskMemo} {givers : List Giver} {old new : Manager C L} where
  -- what a turn leaves tells which turn was made
  pub one_turn : (one other : Turned stands noted kept tick desk givers old new) → one.turn ≡ other.turn
  one_turn one other =
      let notes = λ (it : Turned stands noted kept tick desk givers old new). (turn_adds _ _ _ _ _ it.makes).notes_are in
      let items : items_of one.taken ≡ items_of other.taken = append_cancel_left desk.notes _ _ (sym (notes one) ∙ notes other) in
      let plain = λ (taken : List (Entry Buffer)). map-map plain_item item_of taken in
      grind (arith, items, plain one.taken, plain other.taken, one.makes.entries_are, other.makes.entries_are, one.head_is, other.head_is)
