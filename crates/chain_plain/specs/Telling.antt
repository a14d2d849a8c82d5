-- What a history gives turn by turn, and what is told of it.
use Rattle.std.specs.Prelude.{◌≡◌, ℕ, ◌+◌, ◌≤◌, List, [], ◌∷◌, ◌++◌, reverse, vec_capacity}
use Rattle.ids_types.specs.Output.{Output, room_of}
use Rattle.ids_types.specs.Turns.{Turn}
use Rattle.ids_config.specs.Parts.{Parts}
use Rattle.chain_spec.specs.Chain.{handed}
pub use Rattle.filter_chain.specs.Transcripts.{ends_of}
use Rattle.filter_chain.specs.{Adds, IsTranscript, most_sent}
use Rattle.chain_plain.specs.declared.desk.Desk.{Desk}
use Rattle.chain_plain.specs.declared.tally.Tally.{Tally}

-- the numbers that the turns hand on, the first of them first
abbrev pub handed_by : Parts → List Turn → List ℕ
handed_by config turns = reverse (handed config (reverse turns))

-- with a turn more: what it gives, and the number that it hands on
pub record Tallies (out : Output) (limited : ℕ) (old new : Tally) : Type 0 where
  pub transcript : Adds out old.transcript new.transcript
  pub handed : new.limited.items ≡ old.limited.items ++ limited ∷ []

-- it tells what these turns send, and the numbers that they hand on
pub record Tells (config : Parts) (turns : List Turn) (tally : Tally) : Type 0 where
  pub transcript : IsTranscript config turns tally.transcript
  pub numbers : tally.limited.items ≡ handed_by config turns

-- a desk with room for each turn of a chain of so many events
pub record HasDeskRoom (events : ℕ) (desk : Desk) : Type 0 where
  pub nothing_back : desk.back.items ≡ []
  pub items_room : 1024 ≤ vec_capacity desk.items
  pub back_room : 1024 + events ≤ vec_capacity desk.back
  pub sent_room : most_sent 1024 1024 events ≤ room_of desk.out

-- nothing on it, and such room
pub record IsReady (events : ℕ) (desk : Desk) : Type 0 where
  pub no_items : desk.items.items ≡ []
  pub room : HasDeskRoom events desk
