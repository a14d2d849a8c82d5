use Rattle.event_chain.proofs.Names.{◌+◌, ◌≤◌, ◌++◌, List, [], ◌∷◌, length, reverse, reverse-append, append-nil, ap, ◌∙◌, arith, rules, common_steps, Turn, moments, endings, with_all-append, Sends, last_tick, newest_tick, Parts, all_parcels, turn_by, start_of, Watched, StandsWatched, ◌≡◌, Internal, IsBehind, heads_of}
use Rattle.event_chain.proofs.ClosingLemmas.{aggregated_few}
use Rattle.event_chain.proofs.Going.{Goes, goes_left, goes_more, goes_none, stays_more}
use Rattle.event_chain.proofs.HandsLemmas.{hands_next, hands_none}
use Rattle.event_chain.proofs.HeadLemmas.{heads_few, heads_within}
use Rattle.event_chain.proofs.SoundLemmas.{sound_kept}
use Rattle.event_chain.specs.Room.{kept_few, parcels_few}
use Rattle.event_chain.proofs.event_chain.EventChainChain.judge.Given.{Over}
use Rattle.event_chain.proofs.event_chain.EventChainChain.judge.Goals.{After-deref, After-take_entries}
use Rattle.event_chain.proofs.event_chain.EventChainChain.judge.Goals as goal

-- the windows are those of the chain
same : (g : Over) (c : After-deref g) → c.begin.new.self.windows ≡ c.args.self.now.way.windows
same g c = c.begin.ensures.windows ∙ ap (λ (v : Watched g.row.B.Denot g.row.W.Denot). v.way.windows) c.self.view_is

-- what is left when the turn has begun
begun : (g : Over) (c : After-deref g) → let parcels = all_parcels c.args.items.now.items in
    Goes g.B.Parcel.held c.args.head.now.tick (length c.deref.result.now + (3 + length c.args.items.now.items)) 0 parcels parcels
    c.begin.new.self c.begin.new.self c.args.back.now c.args.back.now c.begin.new.out c.begin.new.out
begun g c =
    let items = c.args.items.now.items in
    let same = same g c in
    let few = aggregated_few c.begin.new.self.windows c.deref.result.now (rw (c.deref.ensures.value, c.begin.ensures.windows) c.self.invariant.aggregating) in
    let can = c.begin.ensures.can (length items) (length c.self.inside.way.windows) c.requires.items.few c.self.invariant.few in
    goes_none (record {
      places = c.begin.ensures.places c.self.invariant.places;
      can = search (rules, can, few, ap length c.begin.ensures.windows);
      room = grind (arith, common_steps, same, few, c.begin.ensures.all_left, c.requires.out);
      handed = grind (arith, common_steps, same, kept_few c.begin.new.self.windows, parcels_few items, c.requires.back);
    })

pub close_all-requires : goal.close_all-requires
close_all-requires g c =
    let before = (goal.at.close_all-requires g c).After-deref in
    record {
      left = goes_left [] (all_parcels c.args.items.now.items) (begun g before) (length c.deref.result.now) (omega arith);
      events = rw (c.deref.ensures.value, c.begin.ensures.windows) c.self.invariant.aggregating;
      short = rw (same g before) c.requires.kept;
    }

pub take_heads-requires : goal.take_heads-requires
take_heads-requires g c =
    let came = all_parcels c.args.items.now.items in
    let all = c.close_all.ensures in
    let sound = c.self.invariant in
    let three = heads_few c.self.inside.internal c.args.head.now c.heads.result c.heads.ensures in
    let closed = goes_more [] came (begun g (goal.at.take_heads-requires g c).After-deref) _ (omega arith) all.moved in
    record {
      left = goes_left [] came closed (length c.heads.result) (omega (arith, three));
      settled = all.settled;
      events = heads_within c.self.inside.internal c.args.head.now c.heads.result c.heads.ensures (length c.close_all.new.self.windows)
          (rw (all.moved.stays.windows.events, c.begin.ensures.windows) (sound.lost_events, sound.lost_contexts, sound.limited));
    }

pub take_entries-requires : goal.take_entries-requires
take_entries-requires g c =
    let came = all_parcels c.args.items.now.items in
    let first = c.close_all.ensures in
    let windows = c.take_heads.ensures.moved.stays.windows in
    let before = (goal.at.take_entries-requires g c).After-deref in
    let three = heads_few c.self.inside.internal c.args.head.now c.heads.result c.heads.ensures in
    let closed = goes_more [] came (begun g before) _ (omega arith) first.moved in
    let headed = goes_more [] came closed _ (omega (arith, three)) c.take_heads.ensures.moved in
    record {
      left = goes_left came [] (rw (← append-nil came) at headed) (length c.args.items.now.items) (omega (arith, three));
      settled = λ k. windows.settled k (first.settled k);
      acts = rw (windows.events, first.moved.stays.windows.events, same g before) c.requires.items.acts;
    }

pub invariant_of-self : goal.invariant_of-self
invariant_of-self g c =
    let all = stays_more (stays_more c.close_all.ensures.moved.stays c.take_heads.ensures.moved.stays) c.take_entries.ensures.moved.stays in
    sound_kept c.self.inside c.take_entries.new.self c.self.invariant (all.places (c.begin.ensures.places c.self.invariant.places))
    (rw c.begin.ensures.windows at all.windows)

-- the chain stands for the turns with the turn, and the output has what the turn sends
turned : (g : Over) (c : After-take_entries g) (config : Parts) (turns : List Turn)
    → StandsWatched g.B.Parcel.held g.W.Witness.knows config (reverse turns) c.args.self.now → last_tick turns ≤ c.args.head.now.tick
    → let turn = turn_by g.B.Parcel.held c.args.head.now c.args.items.now.items in
    let now : Watched g.row.B.Denot g.row.W.Denot = record { way = c.take_entries.new.self; internal = c.self.inside.internal } in
    StandsWatched g.B.Parcel.held g.W.Witness.knows config (reverse (turns ++ turn ∷ [])) now × Sends config turns turn c.take_entries.new.out
turned g c config turns stood le =
    let turn = turn_by g.B.Parcel.held c.args.head.now c.args.items.now.items in
    let before = reverse turns in
    let stands = rw (← c.self.view_is) at stood in
    let start = start_of config (endings config (moments config before)) in
    let begun = c.begin.ensures.behind config (newest_tick before) turn.head.tick (moments config before) stands.way le in
    let headed = c.take_heads.ensures.behind config start _ (c.close_all.ensures.behind config start (moments config before) begun) in
    let heads = c.heads.ensures ∙ ap (λ (i : Internal). heads_of i c.args.head.now) stands.internal in
    let behind : IsBehind g.B.Parcel.held g.W.Witness.knows config start turn.head.tick (moments config (turn ∷ before)) c.take_entries.new.self c.take_entries.new.out =
    rw (with_all-append, with_all-append, ← heads) (c.take_entries.ensures.behind config start _ headed) in
    let same = reverse-append turns (turn ∷ []) in
    let sent = behind.went.sent in (
      rw same (record {
        way = record { at = behind.at; rest = behind.went.follows; witness = behind.witness };
        limited = omega (arith, sent.counted);
        internal = stands.internal;
      }),
      record { bytes = rw same sent.bytes; number = rw same sent.number },
    )

pub returns-clause-stands : goal.returns-clause-stands
returns-clause-stands g c config turns stood le = (turned g c config turns stood le).0

pub returns-clause-sends : goal.returns-clause-sends
returns-clause-sends g c config turns stood le = (turned g c config turns stood le).1

pub returns-clause-parcels : goal.returns-clause-parcels
returns-clause-parcels g c =
    let came = all_parcels c.args.items.now.items in
    let same = same g (goal.at.returns-clause-parcels g c).After-deref in
    rw (← same) (hands_next came [] _ (hands_next [] came _ (hands_next [] came _ (hands_none came _ _) c.close_all.ensures.moved.parcels)
    c.take_heads.ensures.moved.parcels) c.take_entries.ensures.moved.parcels)
