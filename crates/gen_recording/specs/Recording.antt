-- A recording in the making, with the counts of its callers' calls and of the claims of its classes, and the traces of
-- which it makes a history: nothing can be lost.
use Rattle.std.specs.Prelude.{◌≡◌, ℕ, ◌<◌, ◌≤◌, List, [], ◌∷◌, ◌++◌, length, map, reverse, slice_index, ⊤}
use Rattle.std.specs.List.{All, AllByRecursion}
use Rattle.ids_types.specs.declared.parcel.Plain.{Plain}
use Rattle.ids_types.specs.{plain_entry, Turn}
use Rattle.ids_config.specs.Parts.{Parts}
use Rattle.filter_chain.specs.{last_tick, IsShort, FitsTurn}
use Rattle.chain_plain.specs.Telling.{HasDeskRoom, Tells}
use Rattle.event_chain.specs.Chained.{chain_events, chain_kept}
use Rattle.event_chain.specs.Standing.{Stands}
use Rattle.journal.specs.Answers.{told}
use Rattle.text_spec.specs.JournalText.{journal_text}
use Rattle.history_spec.specs.{too_small, KeepUpFrom, Asked, reports, changes, sets, Round, lines_at, ticks_of}
use Rattle.trace_text.specs.TraceView.{Traced}
use Rattle.gen_recording.specs.Quiet.{Call, Plan, calls_before, calls_from, calls_of, claims_before, entries_of, turns_of}
use Rattle.gen_recording.specs.declared.entries.Counts.{Counts}
use Rattle.gen_recording.specs.declared.recorder.Recorder.{Recorder}

-- how often each caller called, after these calls
pub record AreCalls (config : Parts) (past : List Call) (numbers : List ℕ) : Type 0 where
  pub many : length numbers ≡ config.callers
  pub each : (caller : ℕ) → caller < length numbers → slice_index numbers caller ≡ calls_before caller past

-- how many buffers of each class were claimed, after these calls
pub record AreClaims (config : Parts) (past : List Call) (numbers : List ℕ) : Type 0 where
  pub many : length numbers ≡ length config.classes
  pub each : (class : ℕ) → class < length numbers → slice_index numbers class ≡ claims_before config class past

-- the counts after these calls, the newest of which stands first
pub record AreCounts (config : Parts) (past : List Call) (counts : Counts) : Type 0 where
  pub calls : AreCalls config past counts.calls.items
  pub claims : AreClaims config past counts.claims.items

-- there is a class whose buffers are large enough for the context data, if there are any
abbrev pub HasClassFor : Parts → List ℕ → Type 0
HasClassFor config [] = ⊤
HasClassFor config (byte ∷ bytes) = too_small config (length (byte ∷ bytes)) < length config.classes

-- the same for what is asked
abbrev pub HasClass : Parts → Asked → Type 0
HasClass config (reports event count stamp bytes) = HasClassFor config bytes
HasClass config other = ⊤

-- the bytes that a parcel lends
abbrev pub held : Plain → List ℕ
held parcel = parcel.0.now

-- turns as they were planned, the newest of which stands first: the first of them first
abbrev pub turns_made : Parts → List Plan → List Turn
turns_made config before = reverse (turns_of config before)

-- the recorder after turns as they were planned, the newest of which stands first, and these calls for the next one, the
-- first of them first
pub record IsAt (config : Parts) (before : List Plan) (calls : List Call) (r : Recorder) : Type 0 where
  pub journal : r.journal.items ≡ journal_text (told (turns_made config before) [])
  pub tick : r.tick ≡ last_tick (turns_made config before)
  pub stands : Stands held config (turns_of config before) r.chain
  pub tells : Tells config (turns_made config before) r.tally
  pub counts : AreCounts config (reverse calls ++ calls_of before) r.counts
  pub entries : map plain_entry r.desk.items.items ≡ entries_of config (calls_of before) calls
  pub fits : FitsTurn held (length config.events) r.desk.items.items
  pub kept : All (IsShort held) (chain_kept r.chain)
  pub events : chain_events r.chain ≡ length config.events
  pub room : HasDeskRoom (length config.events) r.desk

-- it is after some turns
pub record IsRecording (config : Parts) (r : Recorder) : Type 0 where
  pub before : List Plan
  pub calls : List Call
  pub at : IsAt config before calls r

-- a line that the caller may ask by: it is one of so many, an event is one of the configuration's, and a class has buffers
-- that are large enough
abbrev pub CanAsk : Parts → ℕ → Asked → Type 0
CanAsk config caller (reports event count stamp bytes) =
    (caller < config.callers) × (event.0 < length config.events) × (length bytes ≤ 1024) × HasClassFor config bytes
CanAsk config caller (changes state) = caller < config.callers
CanAsk config caller (sets event mode) = (caller < config.callers) × (event.0 < length config.events)

-- lines of a caller, each of which it may ask by
abbrev pub CanAskAll : Parts → ℕ → List Asked → Type 0
CanAskAll config caller lines = AllByRecursion (CanAsk config caller) lines

-- a round of the configuration's callers, with at most 1,024 lines, each of which may be asked
pub record CanTake (config : Parts) (round : Round) : Type 0 where
  pub callers : length round.lines ≡ config.callers
  pub few : length (calls_from 0 round.lines) ≤ 1024
  pub lines : (caller : ℕ) → CanAskAll config caller (lines_at caller round)

-- such rounds, whose ticks do not fall
pub record CanRecord (config : Parts) (trace : Traced) : Type 0 where
  pub callers : trace.callers ≡ config.callers
  pub rounds : AllByRecursion (CanTake config) trace.rounds
  pub ticks : KeepUpFrom 0 (ticks_of trace.rounds)

-- the recorder is after some turns, and no calls wait for the next one
pub record IsBetween (config : Parts) (r : Recorder) : Type 0 where
  pub before : List Plan
  pub at : IsAt config before [] r
