-- What a manager shows while it runs, by what a handle has.
use Rattle.std.specs.Prelude.{◌≡◌, ℕ, List, Option, Some, None, Result, Ok, Err}
use Rattle.ids_types.specs.declared.mode.Mode.{Mode}
use Rattle.idsm_api.specs.{code_of, RoleJournal, RoleMode, RoleStatus}
use Rattle.idsm_api.specs.declared.answer.Answer.{Answer}
use Rattle.idsm_api.specs.declared.answer.Answer.TheVariants.{Done, Unset}
use Rattle.idsm_api.specs.declared.number.NumberAnswer.{NumberAnswer}
use Rattle.idsm_api.specs.declared.reading.Status.{Status}
use Rattle.idsm_api.specs.declared.role.Role.{Role}
use Rattle.idsm_c.specs.declared.status.Totals.{Totals}
use Rattle.idsm_c.specs.Calls.{event_of}
use Rattle.config_tables.specs.Modes.{mode_at}

-- nothing
abbrev pub no_status : Status
no_status = record { turns = 0; tick = 0; entries = 0; lost_events = 0; lost_contexts = 0; messages = 0; limited = 0; records = 0; state = 0 }

-- the number of an answer, and what it told: nothing if it is a refusal
abbrev pub StatusIs : Result Status Answer → ℕ → Status → Type 0
StatusIs (Ok told) code status = (code ≡ code_of Done) × (status ≡ told)
StatusIs (Err refusal) code status = (code ≡ code_of refusal) × (status ≡ no_status)

-- the status of what a handle has, which is not changed
abbrev pub HandleStatus : Option Role → ℕ → Status → Option Role → Type 0
HandleStatus None code status new = (code ≡ code_of Unset) × (status ≡ no_status) × (new ≡ None)
HandleStatus (Some role) code status new = (told : Result Status Answer) × StatusIs told code status × (new ≡ Some role) × RoleStatus role told

-- the totals in a status
abbrev pub totals_of : Status → Totals
totals_of status = record { entries = status.entries; lost_events = status.lost_events; lost_contexts = status.lost_contexts; messages = status.messages }

-- the totals of what a handle has are those of its status
abbrev pub HandleTotals : Option Role → ℕ → Totals → Option Role → Type 0
HandleTotals old code totals new = (status : Status) × HandleStatus old code status new × (totals ≡ totals_of status)

-- the number of an answer, and that of the mode that it told: 0 if it is a refusal
abbrev pub ModeIs : Result Mode Answer → ℕ → ℕ → Type 0
ModeIs (Ok mode) code number = (code ≡ code_of Done) × (mode_at number ≡ Some mode)
ModeIs (Err refusal) code number = (code ≡ code_of refusal) × (number ≡ 0)

-- the mode of an event by what a handle has, which is not changed
abbrev pub HandleMode : ℕ → Option Role → ℕ → ℕ → Option Role → Type 0
HandleMode event None code number new = (code ≡ code_of Unset) × (number ≡ 0) × (new ≡ None)
HandleMode event (Some role) code number new = (told : Result Mode Answer) × ModeIs told code number × (new ≡ Some role) × RoleMode role (event_of event) told

-- a part of the lines of the last turn by what a handle has, which is not changed
abbrev pub HandleJournal : ℕ → Option Role → List ℕ → ℕ → ℕ → Option Role → List ℕ → Type 0
HandleJournal at None buffer code number new after = (code ≡ code_of Unset) × (number ≡ 0) × (new ≡ None) × (after ≡ buffer)
HandleJournal at (Some role) buffer code number new after =
    (told : NumberAnswer) × (code ≡ code_of told.answer) × (number ≡ told.number) × (new ≡ Some role) × RoleJournal role at buffer told after
