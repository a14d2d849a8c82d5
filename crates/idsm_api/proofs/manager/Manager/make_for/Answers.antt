use Rattle.idsm_api.proofs.Names.{arith, log_in, ap, ◌≡◌, ◌≤◌, ◌∙◌, length, Shared, vec_capacity, rules, refl, sym, length-map, arc_value, chain_events, chain_kept, chain_stands}
use Rattle.ids_config.specs.{class_of, parts_of}
use Rattle.main_function.specs.Making.{IsNewManager}
use Rattle.report_api.specs.Terms.{is_sensor}
use Rattle.idsm_api.proofs.MakingLemmas.{all_callers, as_many, classes_made, most_made, pass_new}
use Rattle.idsm_api.proofs.manager.Manager.make_for.Goals as goal

pub returns-clause-setup : goal.returns-clause-setup
returns-clause-setup c =
    let config = parts_of c.parts.inside in
    let made = c.in_ok-made.made in
    let shared = arc_value c.in_ok-shared.shared in
    let its = c.in_ok-callers.ensures in
    let callers = c.in_ok-callers.callers.items in
    let read : config ≡ c.args.config.now = c.parts.view_is ∙ c.parts-parts.ensures.value in
    let same : made.shared ≡ shared = sym c.in_ok-shared.ensures.ok in
    let new : IsNewManager chain_stands chain_events chain_kept c.args.config.now shared made.passes.items made.manager = rw same at c.in_ok-made.ensures.manager in
    let read_new : IsNewManager chain_stands chain_events chain_kept config shared made.passes.items made.manager = rw read new in
    let events : c.len-events.result ≡ length c.parts.inside.events.items = search rules in
    let classes : c.len-classes.result ≡ length c.parts.inside.classes.items = search rules in
    let many = as_many new callers its.passes in
    let enough : length callers ≤ vec_capacity c.in_ok-passes.passes = search rules in
    record {
      callers_are = many;
      are_all = all_callers new callers its.passes its.shares _ refl;
      callers_fit = λ i d low. rw (its.shares i d low) (pass_new new callers its.passes i d low).is_pass;
      none_called = λ i d low. ap log_in (pass_new new callers its.passes i d low).knows;
      events_are = λ i d low k. ap (λ (s : Shared). is_sensor s.terms k) (its.shares i d low) ∙ new.making.is_config.sensors k;
      manager_fits = record {
        is_manager = new.is_manager;
        most_is = rw (c.most_sent-most.ensures, c.largest.ensures, events) (most_made read_new);
        none_back = c.in_ok-passes.ensures.items;
        room_for_all = omega (arith, enough, many, new.making.callers_are);
        events_are = events ∙ sym read_new.making.is_config.events;
        classes_are = classes ∙ sym (length-map c.parts.inside.classes.items class_of) ∙ classes_made read_new;
      };
      made_for = new.made_for;
      stands_for_none = new.stands_for_none;
      most_is = rw (← new.largest_is) (sym (most_made new));
      is_new = rw its.passes new;
    }
