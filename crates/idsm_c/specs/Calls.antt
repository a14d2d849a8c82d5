-- What the exported functions answer, by what a handle has.
use Rattle.std.specs.Prelude.{◌≡◌, ℕ, List, Option, Some, None}
use Rattle.ids_types.specs.declared.mode.Mode.{Mode}
use Rattle.ids_types.specs.declared.names.EventIndex.{EventIndex}
use Rattle.ids_types.specs.declared.names.Stamp.{Stamp}
use Rattle.report_api.specs.Answers.{given}
use Rattle.idsm_api.specs.{code_of, asked_mode, RoleReports, RoleSets}
use Rattle.idsm_api.specs.declared.answer.Answer.{Answer}
use Rattle.idsm_api.specs.declared.answer.Answer.TheVariants.{OutOfRange, Unset}
use Rattle.idsm_api.specs.declared.role.Role.{Role}

-- the event of a number
abbrev pub event_of : ℕ → EventIndex
event_of number = record { 0 = number }

-- the timestamp of a number
abbrev pub stamp_of : ℕ → Stamp
stamp_of number = record { 0 = number }

-- a call on what a handle has: on nothing it is unset, and else the number is that of the role's answer, and the handle has
-- what the call left of the role
abbrev pub Handles : (Role → Answer → Role → Type 0) → Option Role → ℕ → Option Role → Type 0
Handles call None code new = (code ≡ code_of Unset) × (new ≡ None)
Handles call (Some old) code new = (answer : Answer) × (role : Role) × (code ≡ code_of answer) × (new ≡ Some role) × call old answer role

-- a report on what a handle has
abbrev pub HandleReports : ℕ → ℕ → Option Stamp → List ℕ → Option Role → ℕ → Option Role → Type 0
HandleReports event count stamp context = Handles (RoleReports (given (event_of event) count stamp context))

-- a mode that there is is set by the role, and one that there is not changes nothing
abbrev pub SetsMode : ℕ → Option Mode → Option Role → ℕ → Option Role → Type 0
SetsMode event None old code new = (code ≡ code_of OutOfRange) × (new ≡ old)
SetsMode event (Some mode) old code new = Handles (RoleSets (asked_mode (event_of event) mode)) old code new
