-- What is made is fit.
use Rattle.idsm_api.proofs.Names.{◌<◌, slice_index_or, ◌≡◌, ℕ, ◌∙◌, List, length, refl, sym, ap, length-map, All, Parts, Pass, Shared, Caller, Manager as IdsManager, caller_shares, chain_events, chain_kept, chain_stands, manager_shares, at_length, there, Buffer, queue_seats, sizes_of, PassMemo, at_map, most_sent, IsNewManager}
use Rattle.law_closing.proofs.PlaceLemmas.{or_at}
use Rattle.idsm_api.specs.declared.text.TurnText.{TurnText}
use Rattle.main_function.specs.declared.manager.Manager.{Manager}
use Rattle.event_chain.specs.Chained.{Chained}
use Rattle.ids_types.specs.declared.class_spec.ClassSpec.{ClassSpec}
use Rattle.report_api.specs.Making.{IsNewPass}
use Rattle.idsm_api.specs.{AreAllCallers, passes_of, most_bytes}

module _ {config : Parts} {shared : Shared} {passes : List Pass} {m : Manager (Chained Buffer) TurnText}
    (new : IsNewManager chain_stands chain_events chain_kept config shared passes m) where
  module _ (callers : List Caller) (are : passes_of callers ≡ passes) where
    -- the pass of each caller is new
    pub pass_new : (i : ℕ) (d : Caller) → i < length callers → IsNewPass shared i (slice_index_or callers i d).pass
    pass_new i d low =
        let caller = there callers i low in
        rw (or_at callers i d caller.0 caller.1) (new.making.each i caller.0.pass (rw are at (at_map (λ (c : Caller). c.pass) callers i caller.0 caller.1)))

    -- they are as many as the configuration has
    pub as_many : length callers ≡ config.callers
    as_many = sym (length-map callers (λ (c : Caller). c.pass)) ∙ ap length are ∙ new.making.all_made

    -- they are all callers of the manager
    pub all_callers : All (λ caller. caller_shares caller ≡ shared) callers → (manager : IdsManager) → manager_shares manager ≡ shared
        → AreAllCallers manager callers
    all_callers shares manager its = record {
      all = as_many ∙ sym new.making.callers_are ∙ ap (λ (s : Shared). queue_seats s.queue) (sym its);
      each = λ i caller at.
          let low = at_length callers i caller at in
          let is = or_at callers i caller caller at in
          let made = rw is at (pass_new i caller low) in
          let share = rw is at (shares i caller low) in
          (rw share made.is_pass, share ∙ sym its, ap (λ (memo : PassMemo). memo.number) made.knows);
    }

  -- how long the messages of a turn are at most
  pub most_made : most_sent m.largest config.ring (length config.events) ≡ most_bytes shared
  most_made = rw (new.is_manager.largest_is, new.making.positions_are, new.making.is_config.events) refl

  -- as many classes are there as the configuration has
  pub classes_made : length config.classes ≡ length (sizes_of shared)
  classes_made =
      sym (ap length (new.making.is_shared.sizes_are ∙ new.making.is_config.sizes) ∙ length-map config.classes (λ (class : ClassSpec). class.size))
