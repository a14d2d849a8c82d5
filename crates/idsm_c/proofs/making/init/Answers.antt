use Rattle.idsm_c.proofs.Names.{◌≡◌, ◌∙◌, ◌∷◌, ap, contents_of, Err, false, is_taken, length, length-map, List, Option, refl, Result, Role, rules, roles_in, sym}
use Rattle.std.specs.Prelude.{◌==◌, Bool, not}
use Rattle.ids_config.specs.Parts.{Parts}
use Rattle.config_json.specs.Configured.{Tells}
use Rattle.ids_config.specs.declared.fault.ConfigFault.{ConfigFault}
use Rattle.config_json.specs.declared.fault.JsonFault.{JsonFault}
use Rattle.config_json.specs.declared.fault.JsonFault.TheVariants as faults
use Rattle.idsm_c.specs.Making.{InitTells, NothingFilled, refused}
use Rattle.idsm_api.specs.declared.answer.Answer.TheVariants.{Done, NoMemory, Occupied, OutOfRange}
use Rattle.idsm_c.proofs.making.init.Goals as goal

pub returns-then-is_occupied : goal.returns-then-is_occupied
returns-then-is_occupied c deserved tells = (Occupied, search rules, (cc, c.is_occupied.ensures.same, search rules))

-- a refusal is told with its cause
refuses : (journal : Bool) (deserved : Result Parts ConfigFault) (old new : List (Option Role)) (manager after : Option Role) (refusal : JsonFault)
    → Tells deserved (Err refusal) → is_taken (manager ∷ old) ≡ false → NothingFilled old manager new after
    → InitTells journal deserved old manager (refused refusal).0 new after (refused refusal).1
refuses journal deserved old new manager after (faults.Config fault) tells free same = (free, (record { first = fault; found_is = tells; fault_is = refl }, same))
refuses journal deserved old new manager after faults.NoMemory tells free same = (free, (same, refl))

pub returns-in-Err : goal.returns-in-Err
returns-in-Err c deserved tells =
    let free : is_taken (c.args.manager.now.content ∷ contents_of c.args.callers.now) ≡ false = cc in (
      c.refused-answer.result.0,
      search rules,
      rw c.refused-answer.ensures (refuses (not (c.args.journal == 0)) deserved (contents_of c.args.callers.now)
          (contents_of c.is_occupied.new.callers) c.args.manager.now.content c.is_occupied.new.manager.content c.in-Err.refusal (rw c.in-Err.is at tells) free c.is_occupied.ensures.same),
    )

pub returns-then-parts-callers : goal.returns-then-parts-callers
returns-then-parts-callers c deserved tells =
    let other = c.if-parts-callers.true in
    let same = c.parts.ensures.value in
    let many = c.is_occupied.ensures.same in
    (OutOfRange, search rules, (cc, (record { config = c.in-Ok.config; found_is = rw c.in-Ok.is at tells; number = λ e. other (ap (λ (config : Parts). config.callers) (c.behind-config.view_is ∙ same) ∙ (simp length-map at e) ∙ sym (simp length-map at (ap length many.callers_are))) }, c.is_occupied.ensures.same, search rules)))

pub returns-in_default : goal.returns-in_default
returns-in_default c deserved tells = (NoMemory, search rules, (cc, (c.is_occupied.ensures.same, search rules)))

pub returns : goal.returns
returns c deserved tells =
    let roles = c.in-Ok-roles_of.roles in
    let new = c.in-Ok-roles_of.ensures.made in
    let put = c.put_all.ensures in
    let last = c.put.ensures in
    (Done, search rules, (cc, (record { config = c.in-Ok.config; found_is = rw c.in-Ok.is at tells; callers = roles_in roles.callers.items; manager = roles.manager.value; are_new = new; callers_in = put; manager_in = last }, search rules)))
