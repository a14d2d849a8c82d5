-- Endings as a chain tells them, and who is told.
use Rattle.std.specs.Prelude.{ℕ, List, None, map}
use Rattle.event_chain.specs.Names.{entry_by, Entry, Item, item_at, told_by, act_moment, Qualified, Parts, Ending, Moment, Fate}
use Rattle.event_chain.specs.declared.ending.Ending.{Ending as ToldEnding}

-- the ending of an item of which only its event and its count are told
abbrev pub told : ℕ → ℕ → Fate → Fate → Ending
told event count first fate = record {
  item = record { event = event; tick = 0; count = count; stamp = None; context = None };
  first = first;
  fate = fate;
}

-- what is told of an ending
abbrev pub bare : Ending → Ending
bare ending = told ending.item.event ending.item.count ending.first ending.fate

-- the ending that is told
abbrev pub ending_of : ToldEnding → Ending
ending_of ending = told ending.event.0 ending.count ending.first ending.fate

-- what a witness knows, of a configuration and its moments
abbrev pub Knowing : Type 0 → Type 1
Knowing W = W → Parts → List Moment → Type 0

-- ---- items as the code has them

-- the item at a tick, over its parcel's bytes
abbrev pub here : {B : Type 0} → (B → List ℕ) → ℕ → Qualified B → Item
here held tick item = item_at tick (told_by held item)

-- the moments of entries
abbrev pub entry_moments : {B : Type 0} → (B → List ℕ) → ℕ → List (Entry B) → List Moment
entry_moments held tick items = map (λ entry. act_moment tick entry.act) (map (entry_by held) items)
