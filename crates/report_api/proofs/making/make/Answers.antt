use Rattle.report_api.proofs.Names.{◌∙◌, refl}
use Rattle.ids_config.specs.{parts_of}
use Rattle.report_api.proofs.MakingLemmas.{new_making, valid_specs}
use Rattle.report_api.proofs.making.make.Goals as goal

pub specs_of-requires : goal.specs_of-requires
specs_of-requires c =
    let same = c.parts.view_is ∙ c.parts-parts.ensures.value in
    rw c.deref.ensures.value (valid_specs (parts_of c.parts.inside) (rw (← same) at c.parts-parts.ensures.valid))

pub make-requires-2-clause-classes : goal.make-requires-2-clause-classes
make-requires-2-clause-classes c =
    let same = c.parts.view_is ∙ c.parts-parts.ensures.value in
    rw (c.deref-3.ensures.value, c.in_ok-specs.ensures, c.deref.ensures.value)
    (valid_specs (parts_of c.parts.inside) (rw (← same) at c.parts-parts.ensures.valid))

pub returns : goal.returns
returns c =
    let same = c.parts.view_is ∙ c.parts-parts.ensures.value in
    rw (c.in_ok-passes_of.ensures, ← same) (new_making (parts_of c.parts.inside) _ _ _ _ _ refl c.in_ok-spares.ensures
    (rw (← same) at c.terms_of-terms.ensures) c.in_ok-queue.ensures
    (rw (c.deref-3.ensures.value, c.in_ok-specs.ensures, c.deref.ensures.value) at c.in_ok-classes.ensures))
