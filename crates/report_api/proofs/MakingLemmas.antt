-- What reports and takes, just made.
use Rattle.report_api.proofs.Names.{◌≡◌, ℕ, suc, ◌<◌, is_some, true, List, [], ◌∷◌, get_or, length, map, sym, ◌∙◌, arith, All, slice_index_or, get_or_default, length-map, length-replicate, Parts, class_of, at_index, at_map, at_length, there, RiseFrom, givers_of, AreNewClasses, AreSpecs, IsSpec, spec_sizes, IsNewQueue, AreTied, desk_memo, BoxedAct, Caller, IsNewMaking, IsNewPass, IsOfConfig, as_passes, IsPassOf, IsShared, PassMemo, sizes_of, Pass, Shared, get_elem?, some, none_there, giver_memo, Desk, Giver}
use Rattle.std.proofs.lemmas.Slice.Zip.{length-zip}
use Rattle.ids_types.specs.declared.class_spec.ClassSpec.{ClassSpec}
use Rattle.ids_config.specs.Valid as valid
use Rattle.permit_ring.specs.Hands.{AllAdmitted}
use Rattle.buffer_classes.specs.declared.seat.ClaimSeat.{ClaimSeat}
use Rattle.buffer_classes.proofs.MakingLemmas.{as_many}

-- valid classes may be made
valid_from : (above : ℕ) (specs : List ClassSpec) → valid.AreClasses above specs → RiseFrom above (spec_sizes specs) × AllAdmitted IsSpec specs
valid_from above [] are = (tt, λ i spec at. cc)
valid_from above (first ∷ specs) are = grind (arith, are, valid_from first.size specs are.3)

pub valid_specs : (config : Parts) → valid.IsValid config → AreSpecs config.classes
valid_specs config is = grind (arith, is, valid_from 0 config.classes is.classes)

-- the numbers of a class are small
pub small_at : (classes : List (ℕ × ℕ)) (i : ℕ) → AreSpecs (map class_of classes) → i < length classes → IsSpec (class_of (get_or classes i (0, 0)))
small_at classes i are low =
    are.each i _ (at_map class_of classes i _ (at_index classes i (get_or classes i (0, 0)) low (get_or_default classes i (0, 0) _ low)))

-- a pass has the caller, the claimant and the box of its place
at_passes : (callers : List Caller) (claimants : List ClaimSeat) (spares : List BoxedAct) (i : ℕ) (pass : Pass)
    → get_elem? (as_passes callers claimants spares) i ≡ some pass
    → (get_elem? callers i ≡ some pass.seat) × (get_elem? claimants i ≡ some pass.claimant) × (is_some pass.spare ≡ true)
at_passes (caller ∷ callers) (claimant ∷ claimants) (spare ∷ spares) (suc i) pass at = at_passes callers claimants spares i pass at
at_passes _ _ _ i pass at = grind (arith, at)

pub new_making : (config : Parts) (shared : Shared) (desk : Desk) (callers : List Caller) (claimants : List ClaimSeat) (spares : List BoxedAct)
    → is_some desk.spare ≡ true → length spares ≡ config.callers → IsOfConfig config shared.terms → IsNewQueue config.ring config.callers shared.terms shared.queue desk.taker callers
    → AreNewClasses config.classes config.callers shared.classes desk.givers claimants
    → IsNewMaking config shared (as_passes callers claimants spares) desk
new_making config shared desk callers claimants spares desk_spare many of queue classes =
    let is_shared : IsShared shared = record { terms_are = queue.terms_are; sizes_are = classes.sizes_are ∙ sym of.sizes } in
    let givers = givers_of desk.givers in
    let none = none_there {A = PassMemo} {C = ⊥} config.callers in
    let long : (i : ℕ) (giver : Giver) → get_elem? givers i ≡ some giver → length (giver_memo giver).back ≡ config.callers = λ i giver at.
    let spec = there config.classes i (omega (arith, at_length givers i giver at, as_many classes, classes.givers_are.all)) in
    grind (arith, classes.each_giver i spec.0 giver spec.1 at, length-replicate) in
    let tied : AreTied (sizes_of shared) (desk_memo desk).back givers = rw queue.untouched.back_is (grind (arith, long, length-replicate, none)) in
    let all_made : length (as_passes callers claimants spares) ≡ config.callers = simp (length-map, length-zip)
    (omega (arith, queue.all_made, classes.all_made, many)) in
    let each : (i : ℕ) (pass : Pass) → get_elem? (as_passes callers claimants spares) i ≡ some pass → IsNewPass shared i pass = λ i pass at.
    let from = at_passes callers claimants spares i pass at in
    grind (arith, is_shared, from.2, queue.each i pass.seat from.0, classes.each i pass.claimant from.1) in
    grind (arith, is_shared, of, queue, classes, desk_spare, tied, all_made, each)

-- each pass that was made is one of it
pub all_passes : {config : Parts} {shared : Shared} {passes : List Pass} {desk : Desk} → IsNewMaking config shared passes desk
    → All (IsPassOf shared) passes
all_passes {passes = passes} new i d low =
    let pass = slice_index_or passes i d in
    (new.each i pass (at_index passes i pass low (get_or_default passes i d pass low))).is_pass
