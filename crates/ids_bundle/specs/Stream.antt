-- A stream of units that comes in pieces, and what contracts see of an `Unpacker`.
use Rattle.std.specs.Prelude.{◌≡◌, ℕ, ◌≤◌, List, [], ◌∷◌, ◌++◌, length, take, ⊤, drop, vec_capacity}
use Rattle.std.specs.List.{flat_map, AllByRecursion}
use Rattle.ids_frame.specs.Messages.{joined, messages_of}
use Rattle.ids_bundle.specs.declared.unpacker.Fed.{Fed}
use Rattle.ids_bundle.specs.Units.{Run, units, unit_size, FitsUnit, IsPart, IsBad, unit}
use Rattle.ids_bundle.specs.declared.unpacker.State.{State}
use Rattle.ids_bundle.specs.declared.unpacker.Unpacker.TheInside.{Inside}
use Rattle.ids_bundle.specs.declared.unpacker.Fed.TheVariants as fed
use Rattle.ids_bundle.specs.declared.unpacker.State.TheVariants as states

-- where a stream stands: within a unit of which these bytes came, right after the unit of a run, or stopped at
-- these bytes, which are no unit
pub data Place : Type 0 where
  within : List ℕ → Place
  behind : Run → Place
  stopped : List ℕ → Place

-- the bytes since the last unit
abbrev pub pending : Place → List ℕ
pending (within held) = held
pending (behind run) = []
pending (stopped held) = held

-- the messages of the unit that was given last
abbrev pub body : Place → List ℕ
body (behind run) = joined run
body place = []

-- the runs of the unit that was given last, none or one
abbrev pub given : Place → List Run
given (behind run) = run ∷ []
given place = []

-- the place is one that a stream can come to
abbrev pub IsPlace : Place → Type 0
IsPlace (within held) = IsPart held
IsPlace (behind run) = FitsUnit run
IsPlace (stopped held) = IsBad held

-- what an answer says of the bytes used and of the new place
abbrev pub Says : Fed → List ℕ → ℕ → Place → Type 0
Says fed.More piece used (within held) = used ≡ length piece
Says (fed.Unit told) piece used (behind run) = told ≡ used
Says fed.Bad piece used (stopped held) = length held ≡ unit_size held
Says answer piece used new = ⊥

-- after the held bytes those of the piece that were used lead to the new place
pub record Takes (held piece : List ℕ) (answer : Fed) (used : ℕ) (new : Place) : Type 0 where
  pub few : used ≤ length piece
  pub whole : held ++ take used piece ≡ units (given new) ++ pending new
  pub at : IsPlace new
  pub says : Says answer piece used new

-- nothing was used, and the stream stays where it is
pub record Refuses (old : Place) (answer : Fed) (used : ℕ) (new : Place) : Type 0 where
  pub bad : answer ≡ fed.Bad
  pub none : used ≡ 0
  pub same : new ≡ old

-- a piece came, this was answered, so many of its bytes were used, and the stream stands at the new place
abbrev pub Feeds : Place → List ℕ → Fed → ℕ → Place → Type 0
Feeds (stopped held) piece answer used new = Refuses (stopped held) answer used new
Feeds place piece answer used new = Takes (pending place) piece answer used new

-- one call of `feed`
pub record Call : Type 0 where
  pub piece : List ℕ
  pub answer : Fed
  pub used : ℕ
  pub after : Place

-- calls of `feed`, one after the other
abbrev pub AreCalls : Place → List Call → Type 0
AreCalls place [] = ⊤
AreCalls place (call ∷ calls) = Feeds place call.piece call.answer call.used call.after × AreCalls call.after calls

-- where the stream stands after them
abbrev pub end_of : Place → List Call → Place
end_of place [] = place
end_of place (call ∷ calls) = end_of call.after calls

-- the stream: all bytes that they used
abbrev pub used_by : List Call → List ℕ
used_by calls = flat_map (λ call. take call.used call.piece) calls

-- the runs whose units they gave
abbrev pub given_by : List Call → List Run
given_by calls = flat_map (λ call. given call.after) calls

-- the stream is the units of these runs, and then what is pending at the place
pub record StandsFor (place : Place) (stream : List ℕ) (runs : List Run) : Type 0 where
  pub each : AllByRecursion FitsUnit runs
  pub whole : stream ≡ units runs ++ pending place
  pub at : IsPlace place

-- ---- an `Unpacker`

-- the place that the bytes held and the state mean
abbrev pub place_by : State → List ℕ → Place
place_by states.Within held = within held
place_by states.Behind held = behind (messages_of (drop 4 held))
place_by states.Stopped held = stopped held

-- the bytes of the last unit are those of the run that is seen
abbrev pub HoldsUnit : Place → List ℕ → Type 0
HoldsUnit (behind run) held = held ≡ unit run
HoldsUnit place held = ⊤

-- where the fields stand
abbrev pub place_of : Inside → Place
place_of u = place_by u.state u.held.items

-- there is room for the largest unit
pub record IsSound (u : Inside) : Type 0 where
  pub room : 65539 ≤ vec_capacity u.held
  pub at : IsPlace (place_of u)
  pub holds : HoldsUnit (place_of u) u.held.items
