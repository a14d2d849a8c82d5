-- What each part of a chain stands for: the moments so far, and what ended at them. Lists have the newest first.
use Rattle.std.specs.Prelude.{◌≡◌, ℕ, ◌+◌, ◌≤◌, ◌<◌, nat_le, not, Bool, List, map, length, ◌∷◌, ◌++◌, ⊤, if◌then◌else◌}
use Rattle.event_chain.specs.Names.{AllByRecursion, handed_on, Turn, Fate, InWindow, AtThreshold, AtSend, AtRate, Sent, is_held, reached, stores, closing_ticks, newest_tick, counted, Item, fate_from, TakesOne, most_message, place_of, weighed, spelled, Moment, moments, stored_of, Ending, endings, items_where, reaches, EndBy, MemoryStands, slots_by, WindowsStand, GateStands, ThresholdsStand, Parts, internal_of, Output, LimitsStand, SenderParts, IsSenderOf, source_of}
use Rattle.event_chain.specs.declared.rest.Rest.{Rest}
use Rattle.event_chain.specs.declared.way.Way.{Way}
use Rattle.event_chain.specs.Chained.{Chained, Watched}
use Rattle.event_chain.specs.Ready.{HasEvent}
use Rattle.event_chain.specs.Told.{Knowing}

-- the tick of an ending's item
abbrev pub ended_tick : Ending → ℕ
ended_tick one = one.item.tick

-- ---- after the windows

-- each step stands for what reached it
pub record Weighs (config : Parts) (past : List Ending) (rest : Rest) : Type 0 where
  pub thresholds : ThresholdsStand config (map counted (items_where (reaches AtThreshold) past)) rest.thresholds
  pub limits : LimitsStand config (map (weighed config) (items_where (reaches AtRate) past)) rest.limits

-- the names are the configured ones, and the memory has stored what is to be stored
pub record Follows (config : Parts) (past : List Ending) (rest : Rest) : Type 0 where
  pub steps : Weighs config past rest
  pub sources : rest.sources ≡ map source_of config.events
  pub sender : IsSenderOf config rest.sender
  pub room : rest.memory.room ≡ config.memory
  pub memory : MemoryStands rest.memory (map (stored_of config) (items_where (stores config) past))

-- where the way of an item begins that is taken: at the sending if it bypasses the filters
abbrev pub start_by : Bool → Fate
start_by bypasses = if bypasses then AtSend else AtThreshold

-- a way that began so comes to each filter after the windows, unless it bypasses the filters, and to the sending
pub record BeginsBy (bypasses : Bool) (first : Fate) : Type 0 where
  pub filters : (step : Fate) → place_of AtThreshold ≤ place_of step → place_of step < place_of AtSend
      → nat_le (place_of first) (place_of step) ≡ not bypasses
  pub sending : place_of first ≤ place_of AtSend

-- what there was before a turn: how many were held back, the bytes of messages, and how many these were
pub record Start : Type 0 where
  pub held : ℕ
  pub bytes : List ℕ
  pub messages : ℕ

-- what there is of these endings
abbrev pub start_of : Parts → List Ending → Start
start_of config past = record {
  held = length (items_where (is_held config) past);
  bytes = spelled config (items_where (reaches Sent) past);
  messages = length (items_where (reaches Sent) past);
}

-- in a turn that began with this, all that count are counted with the sender's, and all that are sent are sent with the
-- output's
pub record HasSent (config : Parts) (start : Start) (past : List Ending) (sender : SenderParts) (out : Output) : Type 0 where
  pub counted : length (items_where (is_held config) past) ≡ start.held + sender.held
  pub bytes : spelled config (items_where (reaches Sent) past) ≡ start.bytes ++ out.sent
  pub number : length (items_where (reaches Sent) past) ≡ start.messages + out.messages

-- so all that comes after the windows stands within a turn
pub record Went (config : Parts) (start : Start) (past : List Ending) (rest : Rest) (out : Output) : Type 0 where
  pub follows : Follows config past rest
  pub sent : HasSent config start past rest.sender out

-- with an ending more: its fate is what the steps from there make of its item, and they stand for it, too
pub record Outcome (config : Parts) (start : Start) (moments : List Moment) (bypasses : Bool) (one : Ending) (rest : Rest) (out : Output) : Type 0 where
  pub fate : one.fate ≡ fate_from config moments (endings config moments) (start_by bypasses) one.item
  pub went : Went config start (one ∷ endings config moments) rest out

-- the fate of an item that is taken after the windows, what is so of its ending, and how much it can take
pub record Leaves (bypasses : Bool) (item : Item) (old new : Rest) (fate : Fate) (before after : Output) : Type 0 where
  pub ends : (config : Parts) (start : Start) (moments : List Moment) (first : Fate) → let past = endings config moments in
      Went config start past old before → EndBy ended_tick item.tick past → BeginsBy bypasses first
      → Outcome config start moments bypasses (record { item = item; first = first; fate = fate }) new after
  pub late : place_of (start_by bypasses) ≤ place_of fate
  pub one : TakesOne (most_message item.context) before after
  pub counted : new.sender.held ≤ old.sender.held + 1
  pub has : (k : ℕ) → HasEvent k old → HasEvent k new

-- ---- all of the chain

-- nothing ended, and no window was closed, at a later tick
pub record EndAt (config : Parts) (tick : ℕ) (moments : List Moment) : Type 0 where
  pub endings_end : EndBy ended_tick tick (endings config moments)
  pub closings_end : (event : ℕ) → AllByRecursion (λ closed. closed ≤ tick) (closing_ticks event moments)

-- the gate and the windows stand for these moments
pub record IsAt {B W : Type 0} (held : B → List ℕ) (config : Parts) (tick : ℕ) (moments : List Moment) (way : Way B W) : Type 0 where
  pub gate : GateStands config moments way.gate
  pub windows : WindowsStand config moments (reached config InWindow moments) (slots_by held way.windows)
  pub ends : EndAt config tick moments

-- within a turn all after them stands for what ended, and the witness knows what became of all
pub record IsBehind {B W : Type 0} (held : B → List ℕ) (knows : Knowing W) (config : Parts) (start : Start) (tick : ℕ) (moments : List Moment)
    (way : Way B W) (out : Output) : Type 0 where
  pub at : IsAt held config tick moments way
  pub went : Went config start (endings config moments) way.rest out
  pub witness : knows way.witness config moments

-- if it was behind some moments, it is behind those that come of them
abbrev pub Leads : {B W : Type 0} → (B → List ℕ) → Knowing W → ℕ → (Parts → List Moment → List Moment)
    → Way B W → Way B W → Output → Output → Type 0
Leads held knows tick more old new before after = (config : Parts) (start : Start) (moments : List Moment)
    → IsBehind held knows config start tick moments old before → IsBehind held knows config start tick (more config moments) new after

-- between two turns
pub record Rests {B W : Type 0} (held : B → List ℕ) (knows : Knowing W) (config : Parts) (tick : ℕ) (moments : List Moment) (way : Way B W) : Type 0 where
  pub at : IsAt held config tick moments way
  pub rest : Follows config (endings config moments) way.rest
  pub witness : knows way.witness config moments

-- the chain after these turns: its way is after their moments, and what it held back in the newest turn is the number
-- that this one hands on
pub record StandsWatched {B W : Type 0} (held : B → List ℕ) (knows : Knowing W) (config : Parts) (turns : List Turn) (chain : Watched B W) : Type 0 where
  pub way : Rests held knows config (newest_tick turns) (moments config turns) chain.way
  pub limited : chain.way.rest.sender.held ≡ handed_on config turns
  pub internal : chain.internal ≡ internal_of config

-- a chain that nobody watches
abbrev pub Stands : {B : Type 0} → (B → List ℕ) → Parts → List Turn → Chained B → Type 0
Stands held config turns chain = StandsWatched held (λ witness config moments. ⊤) config turns chain
