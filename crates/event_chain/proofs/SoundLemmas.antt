-- What holds of a chain's fields when it is made and while it takes turns.
use Rattle.event_chain.proofs.Names.{◌<◌, Windowed, rows_of, reverse, Turn, Watched, Knowing, StandsWatched, ◌≡◌, ℕ, List, [], ◌∷◌, length, map, is_some, None, refl, ap, ◌∙◌, arith, nat_tests, common_steps, get_or-map, get_or_past, length-map, Event, Parts, internal_of, plain_event, all_kept, fresh_slot, GateStands, Way, IsSound, Follows, AreOwn, HasPlaces, aggregating_in, is_aggregated}
use Rattle.event_chain.proofs.RestLemmas.{has_event}
use Rattle.std.proofs.Math.Path.{fun_ext}
use Rattle.ids_config.specs.{IsValid}
use Rattle.event_chain.specs.declared.event_chain.EventChain.TheInside.{Inside}

-- ---- the fields

-- the slots of a configuration keep nothing
pub kept_fresh : {B : Type 0} (events : List Event) → all_kept (map (λ event. fresh_slot {C = B} event.aggregate) events) ≡ []
kept_fresh [] = refl
kept_fresh {B} (event ∷ events) = kept_fresh {B = B} events

module _ {B W : Type 0} where
  -- the fields of a chain that was made of a configuration
  pub sound_made : (config : Parts) (c : Inside B W) → IsValid config → GateStands config [] c.way.gate
      → c.way.windows ≡ map (λ event. fresh_slot event.aggregate) config.events → Follows config [] c.way.rest
      → map (λ event. event.0) c.aggregating.items ≡ aggregating_in c.way.windows → c.internal ≡ internal_of config → IsSound c
  sound_made config c valid gate slots follows aggregating known =
      let fresh = λ (event : Event). fresh_slot {C = B} event.aggregate in
      let count : length c.way.windows ≡ length config.events = ap length slots ∙ length-map config.events fresh in
      let has = λ (k : ℕ) (less : k < length config.events). has_event config c.way.rest k follows less in
      let own : AreOwn c.way.windows = λ k.
      let within = get_or-map fresh config.events k (plain_event 0 0) (fresh_slot None) in
      let past = get_or_past (map fresh config.events) k (fresh_slot None) in rw slots (grind (arith, common_steps, within, past)) in
      grind (arith, nat_tests, count, has, gate.events, own, valid.count.most, aggregating, known, valid.internal)

  -- its fields with another way, over as many windows that are aggregated as they were
  pub sound_kept : {tick : ℕ} (c : Inside B W) (new : Way B W) → IsSound c → HasPlaces new → Windowed tick c.way.windows new.windows
      → IsSound (record { way = new; aggregating = c.aggregating; internal = c.internal })
  sound_kept c new sound places on =
      let tests : is_aggregated new.windows ≡ is_aggregated c.way.windows = fun_ext (λ k. ap is_some (on.settings k)) in
      let aggregating : map (λ event. event.0) c.aggregating.items ≡ aggregating_in new.windows = rw (tests, on.events) sound.aggregating in
      grind (arith, on.events, sound, places, aggregating)

-- its memory has the records of its turns
pub rows_told : {B W : Type 0} (chain : Watched B W) {held : B → List ℕ} {knows : Knowing W} (config : Parts) (turns : List Turn)
    → StandsWatched held knows config (reverse turns) chain → reverse chain.way.rest.memory.rows ≡ rows_of config turns
rows_told chain config turns stands = rw (stands.way.rest.memory, stands.way.rest.room) refl
