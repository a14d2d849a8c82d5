use Rattle.std.proofs.Common.{ℕ, ◌≤◌, List, [], ◌∷◌, ◌++◌, length, reverse, refl, subst, sym, ap, arith}
use Rattle.std.specs.List.{All}
use Rattle.std.proofs.lemmas.List.Elements.{All-push}
use Rattle.ids_types.specs.{room_of, Room}
use Rattle.ids_types.specs.declared.parcel.Plain.{Plain}
use Rattle.filter_chain.specs.{last_tick, FitsTurn, most_sent, turn_by}
use Rattle.filter_chain.proofs.TranscriptLemmas.{newest_first}
use Rattle.chain_plain.proofs.TurningLemmas.{told_fits}
use Rattle.chain_plain.specs.{AreInOrder, CanTake, IsReady}
use Rattle.event_chain.specs.Standing.{Stands as ChainStands}
use Rattle.test_chains.specs.Remembered.{IsFresh, Remembered, Stands}
use Rattle.test_chains.specs.Room.{has_room}
use Rattle.test_chains.proofs.plain_chain.PlainChainChain.judge.Goals as goal

-- the bytes that a parcel lends
abbrev held : Plain → List ℕ
held p = p.0.now

-- the fresh chain can take the history and this turn
pub retake-chain-requires : goal.retake-chain-requires
retake-chain-requires g c κs =
    let windows = c.next-chain.result.chain.way.windows in
    let items = c.deref.result.now in
    let fresh = (c.next-chain.ensures.fresh _ c.self.invariant.fresh).1 in
    let many = ap (λ (v : Remembered). length v.config.events) c.self.view_is in
    let ready : IsReady (length windows) c.next-chain.result.desk = rw fresh.events fresh.ready in
    let turns : All (CanTake (length windows)) c.self.inside.history.turns = rw fresh.events c.self.invariant.turns_fit in
    let asked : FitsTurn g.B.Parcel.held (length windows) items × (most_sent 1024 (length items) (length windows) ≤ room_of c.args.out.now) =
    rw (c.deref.ensures.value, fresh.events, many) (c.requires.items, c.requires.out) in
    ((refl, tt), (λ any entries bytes. refl, (ready, (fresh.kept, (turns, asked)))))

pub record_turn-requires : goal.record_turn-requires
record_turn-requires g c =
    let own = λ (v : Remembered). v.history.room in
    rw (c.deref-2.ensures.value, ap own c.self.view_is) (has_room c.args.self.now.history.room _ _ c.requires.fits)

-- the turn is kept, and a chain is used up for it
pub invariant_of-self : goal.invariant_of-self
invariant_of-self g c =
    let sound = c.self.invariant in
    let config = c.self.inside.config.now in
    let items = c.deref-2.result.now in
    let fits : FitsTurn g.B.Parcel.held (length config.events) items =
    rw (c.deref-2.ensures.value, ap (λ (v : Remembered). length v.config.events) c.self.view_is) c.requires.items in
    let left = ap (λ (room : Room). room.turns) c.record_turn.ensures.room in
    record {
      turns_fit = subst (All (CanTake (length config.events))) (sym c.record_turn.ensures.turns)
          (All-push (CanTake (length config.events)) c.self.inside.history.turns (turn_by g.B.Parcel.held c.args.head.now items) sound.turns_fit
          (told_fits g.B.Parcel.held (length config.events) items fits));
      fresh = (c.next-chain.ensures.fresh config sound.fresh).0;
      enough = omega (arith, left, sound.enough, c.next-chain.ensures.len);
      few = c.limited-self-inside.ensures.bound;
    }

pub returns-clause-stands : goal.returns-clause-stands
returns-clause-stands g c config turns stood later =
    let turn = turn_by g.B.Parcel.held c.args.head.now c.args.items.now.items in
    let own = subst (Stands config turns) (sym c.self.view_is) stood in
    let fresh = (c.next-chain.ensures.fresh config (subst (λ p. All (IsFresh p) c.self.inside.fresh.items) own.same c.self.invariant.fresh)).1 in
    let order = subst (λ ts. AreInOrder (reverse ts)) (sym own.all) own.order in
    let after = subst (λ ts. last_tick ts ≤ c.args.head.now.tick) (sym own.all) later in
    let now : ChainStands held config (reverse (turns ++ turn ∷ [])) c.retake-chain.result =
    rw (← own.all, ← c.deref.ensures.value) (c.retake-chain.ensures.took config fresh.stands order after).0 in
    record {
      same = own.same;
      all = rw (c.record_turn.ensures.turns, own.all, c.deref-2.ensures.value) refl;
      order = subst AreInOrder (sym (newest_first turns turn)) (later, own.order);
      handed = c.limited-self-inside.ensures.value config (turns ++ turn ∷ []) now;
      rows = c.into_memory.ensures config (turns ++ turn ∷ []) now;
    }

pub returns-clause-sends : goal.returns-clause-sends
returns-clause-sends g c config turns stood later =
    let own = subst (Stands config turns) (sym c.self.view_is) stood in
    let fresh = (c.next-chain.ensures.fresh config (subst (λ p. All (IsFresh p) c.self.inside.fresh.items) own.same c.self.invariant.fresh)).1 in
    let order = subst (λ ts. AreInOrder (reverse ts)) (sym own.all) own.order in
    let after = subst (λ ts. last_tick ts ≤ c.args.head.now.tick) (sym own.all) later in
    rw (← own.all, ← c.deref.ensures.value) (c.retake-chain.ensures.took config fresh.stands order after).1
