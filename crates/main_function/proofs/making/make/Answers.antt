use Rattle.main_function.proofs.Names.{◌≡◌, ◌∙◌, map, length, subst, sym, rules, Parts, class_of, ap, AreSpecs, spec_sizes, IsBuilt, largest_size, arith, parts_of, IsValid, IsNewMaking}
use Rattle.report_api.proofs.MakingLemmas.{valid_specs}
use Rattle.main_function.proofs.LargestLemmas.{largest_least}
use Rattle.main_function.proofs.MakingLemmas.{new_manager}
use Rattle.main_function.proofs.making.make.Goals as goal

pub build-requires-clause-short : goal.build-requires-clause-short
build-requires-clause-short g c =
    let valid : IsValid (parts_of c.read.inside) = subst IsValid (sym (c.read.view_is ∙ c.parts-read.ensures.value)) c.parts-read.ensures.valid in
    let specs : AreSpecs (map class_of c.deref.result.now) = rw c.deref.ensures.value (valid_specs (parts_of c.read.inside) valid) in
    rw c.largest_of-largest.ensures (largest_least 0 _ (omega arith) specs.each)

pub returns-clause-manager : goal.returns-clause-manager
returns-clause-manager g c =
    let config = c.args.config.now in
    let same : parts_of c.read.inside ≡ config = c.read.view_is ∙ c.parts-read.ensures.value in
    let specs = valid_specs config c.parts-read.ensures.valid in
    let classes : map class_of c.deref.result.now ≡ config.classes = rw c.deref.ensures.value (ap (λ (config : Parts). config.classes) same) in
    let largest : c.largest_of-largest.result ≡ largest_size (spec_sizes config.classes) =
    c.largest_of-largest.ensures ∙ ap (λ specs. largest_size (spec_sizes specs)) classes in
    let made : IsNewMaking config c.in_ok-parts.parts.shared c.in_ok-parts.parts.passes.items c.in_ok-manager.manager.desk =
    rw c.in_ok-manager.ensures.desk_is c.in_ok-parts.ensures in
    let built : IsBuilt c.in_ok-parts.parts.desk c.args.chain c.args.log config.ring (length config.events) c.largest_of-largest.result c.in_ok-manager.manager =
    rw (← same) (search rules) in
    new_manager g.C.Chain.stands g.C.Chain.events g.C.Chain.kept config c.in_ok-parts.parts.shared c.in_ok-parts.parts.passes.items c.in_ok-manager.manager made
    c.in_ok-parts.parts.desk c.args.chain c.args.log c.largest_of-largest.result built largest (rw largest (largest_least 0 _ (omega arith) specs.each)) specs.rise
    c.parts-read.ensures.valid.ring.most c.requires.fresh c.requires.events c.requires.kept
