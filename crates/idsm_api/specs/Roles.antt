-- A caller and a manager with what they share, and what holds of each between two calls.
use Rattle.std.specs.Prelude.{◌≡◌, ℕ, ◌≤◌, List, [], length, reverse, vec_capacity}
use Rattle.std.specs.Arc.{arc_value}
use Rattle.ids_types.specs.Turns.{Turn}
use Rattle.ids_config.specs.Parts.{Parts}
use Rattle.buffer_classes.specs.Buffers.{Buffer}
use Rattle.filter_chain.specs.Turning.{most_sent}
use Rattle.event_chain.specs.Chained.{Chained}
pub use Rattle.event_chain.specs.Chained.{chain_events, chain_kept}
use Rattle.event_chain.specs.Standing.{Stands as ChainStands}
use Rattle.report_queue.specs.Parts.{queue_positions, queue_seats}
use Rattle.report_api.specs.Passes.{IsPassOf, sizes_of}
use Rattle.report_api.specs.declared.shared.Shared.{Shared}
use Rattle.idsm_api.specs.declared.text.TurnText.{TurnText}
use Rattle.main_function.specs.Standing.{IsManagerOf, Stands, largest_size}
use Rattle.main_function.specs.declared.manager.Manager.{Manager as Over}
use Rattle.idsm_api.specs.declared.caller.Caller.{Caller}
use Rattle.idsm_api.specs.declared.manager.Manager.{Manager}

-- what a caller shares with its manager
abbrev pub caller_shares : Caller → Shared
caller_shares caller = arc_value caller.shared

-- what a manager shares with its callers
abbrev pub manager_shares : Manager → Shared
manager_shares port = arc_value port.shared

-- the filter chain stands for these turns
abbrev pub chain_stands : Chained Buffer → Parts → List Turn → Type 0
chain_stands chain config turns = ChainStands (λ (buf : Buffer). buf.bytes) config (reverse turns) chain

-- the manager over the filter chain, which may keep the lines of the last turn
abbrev pub ChainManager : Type 0
ChainManager = Over (Chained Buffer) TurnText

-- the manager stands for these turns of the configuration, the first of them first
abbrev pub StandsFor : Parts → List Turn → Manager → Type 0
StandsFor config turns port = Stands chain_stands config port.manager turns

-- how many bytes a buffer for the messages of a turn has at least
abbrev pub most_bytes : Shared → ℕ
most_bytes shared = most_sent (largest_size (sizes_of shared)) (queue_positions shared.queue) shared.terms.events

-- the caller's pass is one of what it shares, between two calls
abbrev pub IsFitCaller : Caller → Type 0
IsFitCaller caller = IsPassOf (caller_shares caller) caller.pass

-- the manager is the one of what it shares, between two calls. Its numbers are those of what it shares, and it has room to
-- take all callers back
pub record IsFitManager (port : Manager) : Type 0 where
  pub is_manager : IsManagerOf chain_events chain_kept (manager_shares port) port.manager
  pub most_is : port.most ≡ most_bytes (manager_shares port)
  pub classes_are : port.classes ≡ length (sizes_of (manager_shares port))
  pub events_are : port.events ≡ (manager_shares port).terms.events
  pub none_back : port.passes.items ≡ []
  pub room_for_all : queue_seats (manager_shares port).queue ≤ vec_capacity port.passes
