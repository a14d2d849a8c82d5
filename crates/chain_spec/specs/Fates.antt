-- Where the way of an item ends: the steps in their order. A step has the name of the fate that it gives.
-- The members are those of the AUTOSAR SWS Intrusion Detection System Manager's filter chain; that each item has one
-- that decided it is this project's own.
use Rattle.std.specs.Prelude.{◌≡◌, ℕ, ◌≤◌, ◌<◌, nat_le, Bool, true, false, List, [], ◌∷◌, codes, filter, if◌then◌else◌}
pub use Rattle.chain_spec.specs.declared.fate.Fate.{Fate}
pub use Rattle.chain_spec.specs.declared.fate.Fate.TheVariants.{AtMode, AtBlock, AtNth, InWindow, AtThreshold, AtSend, AtRate, AtTraffic, Sent}

-- the place of a step on the way, from 0
abbrev pub place_of : Fate → ℕ
place_of AtMode = 0
place_of AtBlock = 1
place_of AtNth = 2
place_of InWindow = 3
place_of AtThreshold = 4
place_of AtSend = 5
place_of AtRate = 6
place_of AtTraffic = 7
place_of Sent = 8

-- the steps in their order
abbrev pub all_steps : List Fate
all_steps = AtMode ∷ AtBlock ∷ AtNth ∷ InWindow ∷ AtThreshold ∷ AtSend ∷ AtRate ∷ AtTraffic ∷ Sent ∷ []

-- the last of the filters, behind which the sending begins
abbrev pub last_filter : Fate
last_filter = AtThreshold

-- the steps from this one on
abbrev pub steps_from : Fate → List Fate
steps_from first = filter (λ step. nat_le (place_of first) (place_of step)) all_steps

-- the way of an item begins at such a step: the first, the one after the windows, or the sending
abbrev pub begins : Fate → Bool
begins AtMode = true
begins AtThreshold = true
begins AtSend = true
begins _ = false

-- the first of some steps that passes a test
abbrev pub first_that : (Fate → Bool) → List Fate → Fate
first_that test [] = Sent
first_that test (step ∷ steps) = if test step then step else first_that test steps

-- a fate is the first step, from this one on, that passes a test
pub record IsFirstThat (test : Fate → Bool) (first fate : Fate) : Type 0 where
  pub from : place_of first ≤ place_of fate
  pub passes : test fate ≡ true
  pub before : (step : Fate) → place_of first ≤ place_of step → place_of step < place_of fate → test step ≡ false

-- the word for a fate in texts: the member of the configuration that ended the item's way, or what else did
abbrev pub fate_name : Fate → List ℕ
fate_name AtMode = codes "mode"
fate_name AtBlock = codes "block"
fate_name AtNth = codes "nth"
fate_name InWindow = codes "aggregate"
fate_name AtThreshold = codes "threshold"
fate_name AtSend = codes "unsent"
fate_name AtRate = codes "rate"
fate_name AtTraffic = codes "traffic"
fate_name Sent = codes "sent"

-- the item is qualified: it passed all filters, or bypassed them
abbrev pub is_qualified : Fate → Bool
is_qualified fate = nat_le (place_of AtSend) (place_of fate)

-- a limit holds the item back
abbrev pub is_limited : Fate → Bool
is_limited AtRate = true
is_limited AtTraffic = true
is_limited _ = false
