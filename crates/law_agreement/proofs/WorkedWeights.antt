-- Weights, messages and journals of small cases, counted by hand from the layout of messages and from the lines
--     T 5 4 7 6
--     R 0 0 3 1 - -
use Rattle.law_agreement.proofs.Names.{◌≡◌, ℕ, List, [], ◌∷◌, length, reverse, Some, None, refl, Report, Absent, Entry, Parts, plain_event, spelling, Told, journal_text, messages, Item, message_of, weight}
use Rattle.std.specs.Fmt.{digits}

-- three internal events, and one by a sensor
abbrev config : Parts
config = record {
  profile = 1;
  instance = 18;
  callers = 1;
  ring = 64;
  memory = 0;
  state = 0;
  classes = record { size = 64; number = 1 } ∷ [];
  rate = None;
  traffic = None;
  events = plain_event 1 0 ∷ plain_event 2 0 ∷ plain_event 3 0 ∷ plain_event 42 3 ∷ [];
  lost_events = Some 0;
  lost_contexts = Some 1;
  limited = Some 2;
}

-- an item with all that an item may have
abbrev full : Item
full = record { event = 3; tick = 5; count = 1; stamp = Some (record { 0 = 7 }); context = Some (161 ∷ 178 ∷ []) }

-- a report with as little as a report may have
abbrev bare : Entry (List ℕ)
bare = record { caller = 0; call = 0; act = Report (record { 0 = 3 }) 1 None Absent }

-- a turn that has something for each internal event to tell, with these entries
abbrev one_turn : List (Entry (List ℕ)) → Told
one_turn entries = record {
  turns = record { head = record { tick = 5; lost_events = 4; lost_contexts = 7; limited = 6 }; entries = entries } ∷ [];
  losses = [];
}

record AreCounted : Type 0 where
  -- eight bytes, eight of the timestamp, and four and two of context data, whose length takes one byte here
  full_weighs : weight full ≡ 22
  full_is_sent : length (spelling (message_of config full)) ≡ 19
  -- three messages of eight bytes for one line of ten characters: twice the journal would not do
  empty_sent : length (messages config (reverse (one_turn []).turns)) ≡ 24
  empty_told : length (journal_text (one_turn [])) ≡ 10
  -- one message more of eight bytes, and a line of 14 characters
  bare_sent : length (messages config (reverse (one_turn (bare ∷ [])).turns)) ≡ 32
  bare_told : length (journal_text (one_turn (bare ∷ []))) ≡ 24

counts : AreCounted
unfolding digits
counts = assumption (refl)
