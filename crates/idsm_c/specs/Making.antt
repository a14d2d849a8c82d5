-- What filling handles answers, and what they have then.
use Rattle.std.specs.Prelude.{◌≡◌, ◌≢◌, ℕ, Bool, true, false, List, ◌∷◌, length, map, Option, Some, is_some, Result, Ok, Err}
use Rattle.std.specs.List.{All, list_any}
use Rattle.std.specs.declared.alloc.Global.{Global}
use Rattle.std.specs.declared.boxed.Box.{Box}
use Rattle.ids_config.specs.Parts.{Parts}
use Rattle.ids_config.specs.declared.fault.ConfigFault.{ConfigFault}
use Rattle.ids_config.specs.declared.fault.ConfigPlace.{ConfigPlace}
use Rattle.ids_config.specs.declared.fault.ConfigPlace.TheVariants.{Top, Class, Event}
use Rattle.config_json.specs.declared.fault.JsonFault.{JsonFault}
use Rattle.config_json.specs.declared.fault.JsonFault.TheVariants as faults
use Rattle.idsm_api.specs.{code_of, IsFit, IsNewSetup, IsNewText}
use Rattle.idsm_api.specs.declared.answer.Answer.{Answer}
use Rattle.idsm_api.specs.declared.answer.Answer.TheVariants.{Done, OutOfRange, NoMemory, Configuration, Occupied}
use Rattle.idsm_api.specs.declared.caller.Caller.{Caller}
use Rattle.idsm_api.specs.declared.making.Setup.{Setup}
use Rattle.idsm_api.specs.declared.role.Role.{Role}
use Rattle.idsm_api.specs.declared.role.Role.TheVariants.{Calls, Turns}
use Rattle.idsm_c.specs.declared.handle.Handle.{Handle}
use Rattle.idsm_c.specs.declared.making.Fault.{Fault}
use Rattle.idsm_c.specs.declared.making.Roles.{Roles}

-- what handles have
abbrev pub contents_of : List Handle → List (Option Role)
contents_of handles = map (λ (handle : Handle). handle.content) handles

-- whether one of these contents is something
abbrev pub is_taken : List (Option Role) → Bool
is_taken contents = list_any (λ (content : Option Role). is_some content) contents

-- the roles in boxes
abbrev pub roles_in : List (Box Role Global) → List Role
roles_in boxes = map (λ (role : Box Role Global). role.value) boxes

-- callers as roles
abbrev pub caller_roles : List Caller → List Role
caller_roles callers = map Calls callers

-- no fault
abbrev pub no_fault : Fault
no_fault = record { number = 0; part = 0; place = 0 }

-- the part of a place: 0 top, 1 class, 2 event
abbrev pub part_of : ConfigPlace → ℕ
part_of Top = 0
part_of (Class place) = 1
part_of (Event place) = 2

-- the number of a place in its part
abbrev pub place_of : ConfigPlace → ℕ
place_of Top = 0
place_of (Class place) = place
place_of (Event place) = place

-- a fault as numbers
abbrev pub fault_of : ConfigFault → Fault
fault_of fault = record { number = fault.number; part = part_of fault.place; place = place_of fault.place }

-- what is told if no configuration was found
abbrev pub refused : JsonFault → Answer × Fault
refused (faults.Config fault) = (Configuration, fault_of fault)
refused faults.NoMemory = (NoMemory, no_fault)

-- no handle is changed
pub record NothingFilled (old : List (Option Role)) (manager : Option Role) (new : List (Option Role)) (after : Option Role) : Type 0 where
  pub callers_are : new ≡ old
  pub manager_is : after ≡ manager

-- the callers and the manager are fit
pub record AreFit (roles : Roles) : Type 0 where
  pub callers : All IsFit (roles_in roles.callers.items)
  pub manager : IsFit roles.manager.value

-- these are all callers of a configuration, by their numbers, and their manager, all of them new
pub record AreNew (journal : Bool) (config : Parts) (callers : List Role) (manager : Role) : Type 0 where
  pub setup : Setup
  pub is_made : IsNewSetup config setup
  pub text_is : IsNewText journal setup.manager.manager.log
  pub callers_are : callers ≡ caller_roles setup.callers.items
  pub manager_is : manager ≡ Turns setup.manager

-- handle i has caller i of the configuration that was found, and the last one the manager
pub record AllFilled (journal : Bool) (found : Result Parts ConfigFault) (new : List (Option Role)) (after : Option Role) : Type 0 where
  pub config : Parts
  pub found_is : found ≡ Ok config
  pub callers : List Role
  pub manager : Role
  pub are_new : AreNew journal config callers manager
  pub callers_in : new ≡ map Some callers
  pub manager_in : after ≡ Some manager

-- the configuration that was found has another number of callers than there are handles
pub record OtherNumber (found : Result Parts ConfigFault) (handles : List (Option Role)) : Type 0 where
  pub config : Parts
  pub found_is : found ≡ Ok config
  pub number : config.callers ≢ length handles

-- no configuration was found, for this fault
pub record FirstFault (found : Result Parts ConfigFault) (fault : Fault) : Type 0 where
  pub first : ConfigFault
  pub found_is : found ≡ Err first
  pub fault_is : fault ≡ fault_of first

-- each answer of an init over handles that had nothing, with its cause, for what was found of a configuration
abbrev pub InitFinds : Bool → Result Parts ConfigFault → List (Option Role) → Option Role → Answer → List (Option Role) → Option Role → Fault → Type 0
InitFinds journal found old manager Done new after fault = AllFilled journal found new after × (fault ≡ no_fault)
InitFinds journal found old manager OutOfRange new after fault = OtherNumber found old × NothingFilled old manager new after × (fault ≡ no_fault)
InitFinds journal found old manager Configuration new after fault = FirstFault found fault × NothingFilled old manager new after
InitFinds journal found old manager NoMemory new after fault = NothingFilled old manager new after × (fault ≡ no_fault)
InitFinds journal found old manager other new after fault = ⊥

-- where one of the handles has something, nothing is looked for
abbrev pub InitTells : Bool → Result Parts ConfigFault → List (Option Role) → Option Role → Answer → List (Option Role) → Option Role → Fault → Type 0
InitTells journal found old manager Occupied new after fault =
    (is_taken (manager ∷ old) ≡ true) × NothingFilled old manager new after × (fault ≡ no_fault)
InitTells journal found old manager answer new after fault =
    (is_taken (manager ∷ old) ≡ false) × InitFinds journal found old manager answer new after fault

-- an init answers the number of one of these
abbrev pub Inits : Bool → Result Parts ConfigFault → List (Option Role) → Option Role → ℕ → List (Option Role) → Option Role → Fault → Type 0
Inits journal found old manager code new after fault = (answer : Answer) × (code ≡ code_of answer) × InitTells journal found old manager answer new after fault
