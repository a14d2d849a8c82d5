use Rattle.main_function.proofs.Names.{List, Turn, Parts, Stands, AllOf, GaveBack, givers_of, rules, refl, ap, arith, common_steps, TurnHead, turn_by, AdmitsItem, DeskMemo, desk_memo, MakesTurn, held, item_of, items_of, length-map, ◌∙◌, gave_of, only_reaps, taken_on, entry_by, All-append, IsHeld, length, term_sizes, IsShort, All-weaker}
use Rattle.filter_chain.proofs.ParcelLemmas.{all_parcels_of}
use Rattle.filter_chain.proofs.RoomLemmas.{most_grows}
use Rattle.main_function.proofs.QuickLemmas.{turn_is_quick}
use Rattle.main_function.proofs.ReportLemmas.{offered_more, totals_more, turn_adds}
use Rattle.main_function.proofs.StepLemmas.{are_held, come_back, held_fit, items_are, within}
use Rattle.main_function.proofs.TurnedLemmas.{last_within, sent_more, stands_more}
use Rattle.main_function.proofs.manager.Manager.step.Goals as goal

pub judge-requires : goal.judge-requires
judge-requires g c =
    let mine = c.requires.mine in
    let took = c.take_ready.ensures.took in
    let taken = c.take_ready.new.items.items in
    let sizes = term_sizes c.args.shared.now.terms in
    let are = items_are mine took in
    record {
      fits = g.met.C.ParcelChain.roomy c.args.self.now.chain _ _;
      items = rw mine.events_are record { few = omega (arith, took.few, mine.positions_are, mine.roomy.few_positions); acts = are.0 };
      kept = All-weaker (IsHeld sizes) (IsShort held) (λ buf is. omega (arith, within mine buf.class buf.size is.size_is, is.fits, mine.roomy.short)) _ (are_held mine);
      back = search rules;
      out = g.met.C.ParcelChain.within c.args.self.now.chain taken c.args.self.now.largest _ (held_fit mine _ (all_parcels_of (IsHeld sizes) taken are.1)) (held_fit mine _ (are_held mine))
          (omega (arith, most_grows c.args.self.now.largest (length taken) c.args.self.now.positions (g.C.Chain.events c.args.self.now.chain) (omega (arith, took.few, mine.positions_are)), mine.roomy.out_room));
    }

pub with-self-requires-clause-entries : goal.with-self-requires-clause-entries
with-self-requires-clause-entries g c =
    let taken = c.take_ready.new.items.items in
    let only = only_reaps (items_of taken) (desk_memo c.sweep-lost_events.new.self) in
    let swept = c.sweep-lost_events.ensures.swept.told in
    let took = c.take_ready.ensures.took.run.2 in
    grind (arith, common_steps, c.requires.mine.totals_are, only.notes_are, swept, took, length-map taken item_of, c.take_ready.ensures.within)

pub give_back-requires-clause-back : goal.give_back-requires-clause-back
give_back-requires-clause-back g c =
    (come_back c.requires.mine c.take_ready.ensures.took c.judge.ensures.parcels c.requires.mine.roomy.no_back).0

pub returns : goal.returns
returns g c =
    let mine = c.requires.mine in
    let took = c.take_ready.ensures.took in
    let swept = c.sweep-lost_events.ensures.swept in
    let head : TurnHead = record { tick = c.args.tick; lost_events = c.sweep-lost_events.result.0; lost_contexts = c.sweep-lost_events.result.1; limited = c.limited.result } in
    let taken = c.take_ready.new.items.items in
    let makes : MakesTurn c.args.self.now.positions (desk_memo c.args.self.now.desk) taken (turn_by held head taken) (desk_memo c.give_back.new.self) =
    record {
      took = desk_memo c.take_ready.new.desk;
      takes = rw (← swept.told) took.run;
      gives = rw (mine.desk_is.taker.seats_are, ← c.take_ready.ensures.counts) c.give_back.ensures.places.told;
      entries_are = refl;
      few = omega (arith, took.few, mine.positions_are);
    } in
    let out = come_back mine took c.judge.ensures.parcels mine.roomy.no_back in
    let gave : AllOf (GaveBack c.judge.new.back.items) (givers_of c.args.self.now.desk.givers) (givers_of c.give_back.new.self.givers) =
    search (rules, c.give_back.ensures.gave, c.take_ready.ensures.same, c.sweep-lost_events.ensures.same) in
    let only = only_reaps (items_of taken) (desk_memo c.sweep-lost_events.new.self) in
    let sends = λ (config : Parts) (turns : List Turn) (is : Stands g.C.Chain.stands config c.args.self.now turns).
    c.judge.ensures.sends config turns is.chain_stands (rw (← is.tick_is) c.requires.later) in
    record {
      -- between two calls it is the one of this making again
      mine = record {
        desk_is = c.give_back.ensures.mine;
        positions_are = mine.positions_are;
        none_taken = c.give_back.ensures.places.counts;
        offered_is = offered_more _ _ _ _ _ makes mine.offered_is;
        items_within = search rules;
        admitted = rw (turn_adds _ _ _ _ _ makes).notes_are (All-append (AdmitsItem c.args.shared.now.terms) _ _ mine.admitted took.admitted);
        totals_are = totals_more _ _ _ _ _ makes _ _ mine.totals_are (search (rules, c.with-self.ensures.entries)) c.with-self.ensures.lost_events c.with-self.ensures.lost_contexts;
        events_are = c.judge.ensures.events ∙ mine.events_are;
        largest_is = mine.largest_is;
        sizes_given = mine.sizes_given;
        kept_are = out.1;
        tick_within = c.requires.within;
        roomy = grind (arith, common_steps, mine.roomy, c.judge.ensures, c.give_back.ensures.empty);
      };
      turned = record {
        turn = turn_by held head taken;
        taken = taken;
        head_is = refl;
        taken_is = search (rules, length-map taken (entry_by held));
        noted_is = search (rules, c.note.ensures);
        tick_is = refl;
        small = record {
          lost_events = last_within _ _ _ (ap (λ (k : DeskMemo). k.swept0) swept.told) swept.bounds.0;
          lost_contexts = last_within _ _ _ (ap (λ (k : DeskMemo). k.swept1) swept.told) swept.bounds.1;
          limited = c.limited.ensures.bound;
        };
        makes = makes;
        back_is = (turn_adds _ _ _ _ _ makes).back_is;
        released_is = (turn_adds _ _ _ _ _ makes).released_is;
        buffers = record { back = c.judge.new.back.items; same = out.2; gave = gave };
        stands_then = λ config turns is.
            let chain = c.judge.ensures.stands config turns is.chain_stands in
            stands_more g.C.Chain.stands config turns _ _ _ taken is chain c.requires.later makes mine.offered_is refl refl refl
            (sent_more config turns _ _ _ _ _ is.sent_are (sends config turns is).number
            (c.limited-held.ensures.value config _ (chain (rw (← is.tick_is) c.requires.later))) (rw c.messages.ensures at c.with_turn-self.ensures.messages) c.with_turn-self.ensures.limited);
        limited_is = λ config turns is. c.limited.ensures.value config turns is.chain_stands;
        sends = sends;
        keeps = record {
          items_are = c.judge.ensures.items_room ∙ c.take_ready.ensures.room;
          back_are = c.give_back.ensures.room ∙ c.judge.ensures.back_room;
          out_is = c.judge.ensures.out_room;
        };
        rests_are = refl;
        turns_are = refl;
      };
      quick = turn_is_quick mine.desk_is mine.positions_are mine.offered_is makes gave;
      -- no sweep and no take brings a pass back
      all_taken = λ all. taken_on _ _ _ _ c.give_back.ensures.places.told (c.take_ready.ensures.all_taken (rw swept.told all));
      -- and nothing is swept after the takes
      swept = λ all.
          let none = swept.all_swept all in
          let offers = gave_of _ _ _ _ c.give_back.ensures.places.told in
          grind (arith, none, only, took.run.2, offers.swept0_is, offers.swept1_is, offers.back_is);
      settled = λ all. c.give_back.ensures.settled (rw (took.run.2, only.back_is, swept.told) all);
    }
