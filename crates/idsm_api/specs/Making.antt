-- A manager and its callers, just made.
use Rattle.std.specs.Prelude.{◌≡◌, ℕ, List, [], length, map, Result, Ok, Err, ⊤}
use Rattle.std.specs.List.{All}
use Rattle.ids_config.specs.Parts.{Parts, is_sensor}
use Rattle.ids_config.specs.declared.fault.ConfigFault.{ConfigFault}
use Rattle.config_json.specs.declared.fault.JsonFault.{JsonFault}
use Rattle.config_json.specs.declared.fault.JsonFault.TheVariants as faults
use Rattle.buffer_classes.specs.{spec_sizes}
use Rattle.filter_chain.specs.Turning.{most_sent}
use Rattle.law_closing.specs.Closed.{IsMadeFor}
use Rattle.report_api.specs.declared.pass.Pass.{Pass}
use Rattle.main_function.specs.{IsNewManager, largest_size}
use Rattle.idsm_api.specs.declared.caller.Caller.{Caller}
use Rattle.idsm_api.specs.declared.making.Setup.{Setup}
use Rattle.idsm_api.specs.Callers.{AreAllCallers, log_of, may_report, no_calls}
use Rattle.idsm_api.specs.Roles.{IsFitCaller, IsFitManager, StandsFor, chain_events, chain_kept, chain_stands, manager_shares, most_bytes}

-- the passes of callers
abbrev pub passes_of : List Caller → List Pass
passes_of callers = map (λ (caller : Caller). caller.pass) callers

-- how many bytes a buffer for the messages of a turn has at least, by the configuration
abbrev pub most_bytes_for : Parts → ℕ
most_bytes_for config = most_sent (largest_size (spec_sizes config.classes)) config.ring (length config.events)

-- a manager that stands for no turns of the configuration, and all its callers, by their numbers, none of which made a call
pub record IsNewSetup (config : Parts) (setup : Setup) : Type 0 where
  pub callers_are : length setup.callers.items ≡ config.callers
  pub are_all : AreAllCallers setup.manager setup.callers.items
  pub callers_fit : All IsFitCaller setup.callers.items
  pub none_called : All (λ caller. log_of caller ≡ no_calls) setup.callers.items
  pub events_are : All (λ caller. (k : ℕ) → may_report caller k ≡ is_sensor config k) setup.callers.items
  pub manager_fits : IsFitManager setup.manager
  pub made_for : IsMadeFor config (manager_shares setup.manager)
  pub stands_for_none : StandsFor config [] setup.manager
  pub most_is : most_bytes (manager_shares setup.manager) ≡ most_bytes_for config
  -- all buffers are free, and nothing was put into a ring
  pub is_new : IsNewManager chain_stands chain_events chain_kept config (manager_shares setup.manager)
      (passes_of setup.callers.items) setup.manager.manager

-- what a making answers: what the configuration that was found makes, its first fault, or want of memory
abbrev pub MakesSetup : Result Parts ConfigFault → Result Setup JsonFault → Type 0
MakesSetup (Ok config) (Ok setup) = IsNewSetup config setup
MakesSetup (Err fault) (Ok setup) = ⊥
MakesSetup found (Err (faults.Config fault)) = found ≡ Err fault
MakesSetup found (Err faults.NoMemory) = ⊤
