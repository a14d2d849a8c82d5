use Rattle.idsm_c.proofs.Names.{IsFit, All-map}
use Rattle.idsm_api.specs.declared.role.Role.TheVariants.{Calls}
use Rattle.idsm_c.proofs.making.roles_of.Goals as goal

pub returns : goal.returns
returns c = record {
  made = record {
    setup = c.in_ok-setup.setup;
    is_made = c.in_ok-setup.ensures.setup;
    text_is = c.in_ok-setup.ensures.text;
    callers_are = c.in_ok-callers.ensures;
    manager_is = c.in_ok-manager.ensures;
  };
  fit = record {
    callers = rw c.in_ok-callers.ensures (All-map IsFit Calls c.in_ok-setup.setup.callers.items c.in_ok-setup.ensures.setup.callers_fit);
    manager = rw c.in_ok-manager.ensures c.in_ok-setup.ensures.setup.manager_fits;
  };
}
