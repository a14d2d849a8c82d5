-- What a turn answers, with its cause, and what it leaves.
use Rattle.std.specs.Prelude.{◌≡◌, ℕ, ◌-◌, ◌≤◌, ◌<◌, ◌^◌, ◌↔◌, Bool, true, false, List, length, reverse}
use Rattle.ids_types.specs.Turns.{Turn}
use Rattle.ids_types.specs.declared.entry.TurnHead.{TurnHead}
use Rattle.ids_config.specs.Parts.{Parts}
use Rattle.chain_spec.specs.Quiet.{IsQuiet}
use Rattle.buffer_classes.specs.Givers.{givers_of}
use Rattle.report_api.specs.Desks.{desk_memo}
use Rattle.main_function.specs.{last_of, turns_of, IsQuick, Turned}
use Rattle.idsm_api.specs.declared.answer.Answer.{Answer}
use Rattle.idsm_api.specs.declared.answer.Answer.TheVariants.{Done, Spent, TickBack, TickTooLarge, SmallBuffer}
use Rattle.idsm_api.specs.declared.manager.Manager.{Manager}
use Rattle.idsm_api.specs.declared.turning.Told.{Told}
use Rattle.idsm_api.specs.declared.turning.TurnAnswer.{TurnAnswer}
use Rattle.idsm_api.specs.Roles.{ChainManager, StandsFor, chain_kept, chain_stands, manager_shares, most_bytes}
use Rattle.idsm_api.specs.Text.{Notes}
use Rattle.idsm_api.specs.Writing.{IsWritten}

-- what is told where no turn was made
abbrev pub nothing_told : Told
nothing_told = record { turn = 0; bytes = 0; messages = 0; entries = 0; lost_events = 0; lost_contexts = 0 }

-- what is answered if no turn was made
abbrev pub refused : Answer → TurnAnswer
refused answer = record { answer = answer; told = nothing_told; quiet = false }

-- what the last turn of a manager tells
abbrev pub told_in : ChainManager → Told
told_in m = record {
  turn = turns_of m - 1;
  bytes = length m.out.sent;
  messages = m.out.messages;
  entries = m.taken;
  lost_events = m.head.lost_events;
  lost_contexts = m.head.lost_contexts;
}

-- what is told beside an answer
abbrev pub told_by : Answer → ChainManager → Told
told_by Done m = told_in m
told_by refusal m = nothing_told

-- neither the manager nor the buffer is changed
pub record NothingMade (old : Manager) (buffer : List ℕ) (new : Manager) (after : List ℕ) : Type 0 where
  pub manager_is : new ≡ old
  pub buffer_is : after ≡ buffer

-- a buffer of so many bytes is large enough, and the manager may make a turn more
pub record CanTurn (old : Manager) (bytes : ℕ) : Type 0 where
  pub room : most_bytes (manager_shares old) ≤ bytes
  pub few : turns_of old.manager < 2 ^ 62

-- a turn of this tick may be made
pub record MayTurn (tick : ℕ) (old : Manager) (room : ℕ) : Type 0 where
  pub can : CanTurn old room
  pub later : last_of old.manager ≤ tick
  pub within : tick ≤ 2 ^ 62

-- a turn of this tick is refused so, and why
abbrev pub Refuses : ℕ → Manager → ℕ → Answer → Type 0
Refuses tick old room SmallBuffer = room < most_bytes (manager_shares old)
Refuses tick old room Spent = (most_bytes (manager_shares old) ≤ room) × (2 ^ 62 ≤ turns_of old.manager)
Refuses tick old room TickBack = CanTurn old room × (tick < last_of old.manager)
Refuses tick old room TickTooLarge = CanTurn old room × (last_of old.manager ≤ tick) × (2 ^ 62 < tick)
Refuses tick old room other = ⊥

-- a turn with this head took nothing, and has no count to tell
pub record HasNoneToTell (head : TurnHead) (taken : ℕ) : Type 0 where
  pub none_taken : taken ≡ 0
  pub no_lost_events : head.lost_events ≡ 0
  pub no_lost_contexts : head.lost_contexts ≡ 0
  pub none_limited : head.limited ≡ 0

-- a turn of this tick was made, which may be, in few steps, and all its messages are written. It is told whether it is quiet
pub record TurnMade (tick : ℕ) (old : Manager) (buffer : List ℕ) (quiet : Bool) (new : Manager) (after : List ℕ) : Type 0 where
  pub may : MayTurn tick old (length buffer)
  pub turned : Turned chain_stands Notes chain_kept tick (desk_memo old.manager.desk) (givers_of old.manager.desk.givers) old.manager new.manager
  pub quick : IsQuick (manager_shares old) 0 old.manager.desk new.manager.desk
  pub same : new ≡ record old { manager = new.manager }
  pub written : IsWritten new.manager.out.sent buffer after
  pub quiet_is : (config : Parts) (turns : List Turn) → StandsFor config turns old → (quiet ≡ true) ↔ IsQuiet config (reverse turns) turned.turn

-- each answer of a turn with its cause, whether it was quiet, and the manager and the buffer after it
abbrev pub TurnTells : ℕ → Manager → List ℕ → Answer → Bool → Manager → List ℕ → Type 0
TurnTells tick old buffer Done quiet new after = TurnMade tick old buffer quiet new after
TurnTells tick old buffer refusal quiet new after = Refuses tick old (length buffer) refusal × NothingMade old buffer new after × (quiet ≡ false)
