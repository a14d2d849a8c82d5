-- What the second program wrote, and the turns that it stands for.
use Rattle.std.specs.Prelude.{◌≡◌, ℕ, true, false, List, [], ◌++◌}
use Rattle.ids_types.specs.Turns.{Turn}
use Rattle.ids_config.specs.Parts.{Parts}
use Rattle.filter_chain.specs.History.{messages_of}
use Rattle.journal.specs.Printing.{turns_text}
use Rattle.law_closing.specs.{HaveAllCalls, IsMadeFor}
use Rattle.report_api.specs.{PassMemo}
use Rattle.main_function.specs.{AreSumsOf, last_of, turns_of}
use Rattle.idsm_api.specs.{IsFitManager, StandsFor, manager_shares}
use Rattle.idsm_api.specs.declared.manager.Manager.{Manager}
use Rattle.first_journal.specs.declared.Outcome.{Outcome}
use Rattle.first_journal.specs.declared.Written.{Written}

-- what was written is the lines of these turns, and their messages
pub record IsWrittenBy (config : Parts) (turns : List Turn) (written : Written) : Type 0 where
  pub journal_is : written.journal.items ≡ turns_text turns
  pub sent_are : written.sent.items ≡ messages_of config turns

-- and these are all turns that the manager made
pub record Keeps (config : Parts) (manager : Manager) (written : Written) : Type 0 where
  pub turns : List Turn
  pub stands : StandsFor config turns manager
  pub is_written : IsWrittenBy config turns written

-- the lines of the manager's last turn were added, and these messages
pub record Adds (manager : Manager) (sent : List ℕ) (old new : Written) : Type 0 where
  pub not_missed : manager.manager.log.missed ≡ false
  pub journal_is : new.journal.items ≡ old.journal.items ++ manager.manager.log.text.items
  pub sent_is : new.sent.items ≡ old.sent.items ++ sent

-- a manager that keeps its lines made so many turns, one at each tick
pub record IsAfter (turns : ℕ) (manager : Manager) : Type 0 where
  pub fit : IsFitManager manager
  pub asked : manager.manager.log.asked ≡ true
  pub turns_are : turns_of manager.manager ≡ turns
  pub tick_is : last_of manager.manager ≡ turns

-- it is after so many turns, shares the same with its callers, and what was written is still that of its turns
pub record GoesOn (turns : ℕ) (old : Manager) (before : Written) (new : Manager) (after : Written) : Type 0 where
  pub is_after : IsAfter turns new
  pub shares : manager_shares new ≡ manager_shares old
  pub keeps : (config : Parts) → Keeps config old before → Keeps config new after

-- the manager is one of this configuration, and made no turn
pub record IsNew (config : Parts) (manager : Manager) : Type 0 where
  pub made_for : IsMadeFor config (manager_shares manager)
  pub stands : StandsFor config [] manager

-- what was written is that of all turns, which have all calls of the callers, and the totals are their sums
pub record IsOver (config : Parts) (outcome : Outcome) : Type 0 where
  pub turns : List Turn
  pub passes : List PassMemo
  pub is_written : IsWrittenBy config turns outcome.written
  pub all_calls : HaveAllCalls config passes turns
  pub sums : AreSumsOf turns outcome.totals
