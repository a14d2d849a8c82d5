use Rattle.gen_recording.proofs.Names.{◌≡◌, ◌≤◌, refl, append-nil, [], ◌∷◌, ◌++◌, map, reverse, sym, subst, ap, ap₂, ◌∙◌, arith, on_ok_weaker, reverse-append, reverse-reverse, plain_entry, handed_on, turn_by, All-nil, Stands, calls_of, turns_of, turn_of, held, turns_made}
use Rattle.filter_chain.specs.History.{last_tick}
use Rattle.ids_types.specs.declared.entry.TurnHead.{TurnHead}
use Rattle.chain_plain.specs.Telling.{HasDeskRoom, Tells}
use Rattle.chain_plain.proofs.TellingLemmas.{tells_more}
use Rattle.filter_chain.proofs.TranscriptLemmas.{last_of}
use Rattle.journal.specs.Printing.{turn_text}
use Rattle.journal.proofs.PrintingLemmas.{turns-push}
use Rattle.gen_recording.proofs.recorder.Recorder.turn.Goals as goal

-- the turn that was planned was made
pub returns-clause-at : goal.returns-clause-at
returns-clause-at c = on_ok_weaker c.add.result (λ tallies before calls at.
    let config = c.args.config.now in
    let history = turns_made config before in
    let head : TurnHead = record { tick = c.args.tick; lost_events = 0; lost_contexts = 0; limited = c.limited.result } in
    let turn = turn_by held head c.args.self.now.desk.items.items in
    let back = reverse-reverse (turns_of config before) in
    let stands : Stands held config (reverse history) c.args.self.now.chain =
    subst (λ ts. Stands held config ts c.args.self.now.chain) (sym back) at.stands in
    let limited : c.limited.result ≡ handed_on config (turns_of config before) =
    c.limited.ensures.value config history stands ∙ ap (handed_on config) back in
    let is : turn ≡ turn_of config (turns_of config before) (calls_of before) (record { tick = c.args.tick; calls = calls }) =
    rw (limited, at.entries) refl in
    let newest : reverse (history ++ turn ∷ []) ≡ turns_of config (record { tick = c.args.tick; calls = calls } ∷ before) =
    reverse-append history (turn ∷ []) ∙ ap₂ (λ t ts. t ∷ ts) is back in
    let made : history ++ turn ∷ [] ≡ turns_made config (record { tick = c.args.tick; calls = calls } ∷ before) =
    sym (reverse-reverse (history ++ turn ∷ [])) ∙ ap reverse newest in
    let later : last_tick history ≤ c.args.tick = subst (λ t. t ≤ c.args.tick) at.tick c.requires.tick in
    let now = c.turn.ensures.stands config history stands later in
    let sends = c.turn.ensures.sends config history stands later in
    let handed = c.limited-2.ensures.value config (history ++ turn ∷ []) now in
    let tells = tells_more handed at.tells sends tallies in
    let old = c.args.self.now.journal.items in
    let more : c.push_items.new.out.items ≡ old ++ turn_text turn =
    c.in_ok-push_items.ensures.ok ∙ ap (λ items. old ++ turn_text (turn_by held head items)) c.deref.ensures.value in
    record {
      journal = rw (← made, more, at.journal) (simp (append-nil, turns-push));
      tick = sym (ap last_tick (sym made) ∙ last_of history turn);
      stands = subst (λ ts. Stands held config ts c.turn.new.chain) newest now;
      tells = subst (λ ts. Tells config ts c.add.new.self) made tells;
      counts = at.counts;
      entries = ap (map plain_entry) c.turn.ensures.ready.no_items;
      fits = rw c.turn.ensures.ready.no_items (record { few = omega arith; acts = All-nil _ });
      kept = c.turn.ensures.kept;
      events = c.turn.ensures.events ∙ at.events;
      room = subst (λ n. HasDeskRoom n c.turn.new.self) at.events c.turn.ensures.ready.room;
    }) c.add.ensures
