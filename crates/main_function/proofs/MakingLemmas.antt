-- A manager that has just been made.
use Rattle.main_function.proofs.Names.{◌≡◌, ℕ, ◌≤◌, None, List, [], length, sym, ap, ◌∙◌, arith, common_steps, length-map, length-replicate, All-nil, Turn, Parts, AllAdmitted, Buffer, spec_sizes, givers_of, AdmitsItem, IsHeld, IsBuilt, IsNewManager, largest_size, to_give_back, IsNewMaking, sizes_of, Desk, Pass, Shared, at_length, there, rings_have, or_at, Manager, ClassSpec, RiseFrom}
use Rattle.main_function.proofs.LargestLemmas.{rise_above}
use Rattle.buffer_classes.specs.declared.class.Class.{Class}

module _ {C L : Type 0} (stands : C → Parts → List Turn → Type 0) (events : C → ℕ) (kept : C → List Buffer) (config : Parts) (shared : Shared)
    (passes : List Pass) (m : Manager C L) (making : IsNewMaking config shared passes m.desk) where
  -- all is new
  pub new_manager : (desk : Desk) (chain : C) (log : L) (largest : ℕ) → IsBuilt desk chain log config.ring (length config.events) largest m → largest ≡ largest_size (spec_sizes config.classes)
      → largest ≤ 1024 → RiseFrom 0 (spec_sizes config.classes) → config.ring ≤ 1024 → stands chain config [] → events chain ≡ length config.events → kept chain ≡ []
      → IsNewManager stands events kept config shared passes m
  new_manager desk chain log largest built is short rise few fresh are none =
      let sizes : sizes_of shared ≡ spec_sizes config.classes = making.is_shared.sizes_are ∙ making.is_config.sizes in
      let given : AllAdmitted (λ size. 1 ≤ size) (sizes_of shared) = rw sizes (rise_above 0 (spec_sizes config.classes) rise) in
      let held = All-nil (IsHeld (sizes_of shared)) in
      let admitted = All-nil (AdmitsItem shared.terms) in
      let many = length-map config.classes (λ (spec : ClassSpec). spec.size) in
      let all : length (givers_of m.desk.givers) ≡ length config.classes =
      grind (arith, making.is_desk.givers.all, sizes, many, length-map shared.classes.classes.items (λ (class : Class). class.size)) in
      let taker = making.is_desk.taker in
      let none_taken : to_give_back m.desk ≡ 0 =
      grind (arith, taker.is_keeper.account, taker.is_keeper.reaped_is, taker.none_vacant, making.positions_are, making.untouched) in
      record {
        making = making;
        made_for = record {
          positions_are = making.positions_are;
          callers_are = making.callers_are;
          sizes = sizes;
          numbers = rings_have config shared.classes m.desk.givers making.is_desk.givers (λ i giver at.
              let spec = there config.classes i (omega (arith, all, at_length (givers_of m.desk.givers) i giver at)) in
              let new = making.givers_are i spec.0 giver spec.1 at in
              (new.number_is ∙ ap (λ spec. spec.number) (sym (or_at config.classes i _ spec.0 spec.1)), new.untouched.made_is));
        };
        is_manager = grind (arith, common_steps, making, built, none_taken, sizes, given, is, are, held, admitted, none, few, short);
        stands_for_none = grind (arith, common_steps, making.untouched, built, fresh);
        passes_are = record {
          all = making.all_made ∙ sym (ap length making.untouched.back_is ∙ length-replicate config.callers None);
          each = λ i pass is. let new = making.each i pass is in (new.is_pass, ap (λ memo. memo.number) new.knows);
        };
        no_rests = built.no_rests;
        positions_are = built.positions_are;
        largest_is = built.largest_is ∙ is;
      }
