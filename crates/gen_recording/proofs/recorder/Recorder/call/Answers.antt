use Rattle.gen_recording.proofs.Names.{◌≡◌, ℕ, List, [], ◌∷◌, ◌++◌, length, reverse, sym, subst, ap, arith, length-append, common_steps, reverse-append, map-append, All-push, plain_entry, Entry, Plain, FitsAct, FitsTurn, line_asked, Call, calls_of, held}
use Rattle.chain_plain.proofs.TurningLemmas.{act_fits}
use Rattle.gen_recording.proofs.RecordingLemmas.{ask_fits, entries_more}
use Rattle.gen_recording.proofs.recorder.Recorder.call.Goals as goal

pub returns-clause-at : goal.returns-clause-at
returns-clause-at c before calls at =
    let config = c.args.config.now in
    let call : Call = record { caller = c.args.caller; asked = line_asked c.args.line } in
    let past = reverse calls ++ calls_of before in
    let entry = c.in_ok-entry.entry in
    let is = c.in_ok-entry.ensures.entry past at.counts in
    let items : c.push_reserved.new.self.items ≡ c.args.self.now.desk.items.items ++ entry ∷ [] = grind (arith, common_steps) in
    let fits : FitsAct held (length config.events) entry.act =
    (act_fits held (length config.events) entry.act).1
    (subst (FitsAct (λ bytes. bytes) (length config.events)) (sym (ap (λ (e : Entry (List ℕ)). e.act) is))
    (ask_fits config past c.args.caller (line_asked c.args.line) c.requires.line)) in
    record {
      journal = at.journal;
      tick = at.tick;
      stands = at.stands;
      tells = at.tells;
      counts = rw reverse-append (c.in_ok-entry.ensures.counts past at.counts);
      entries = grind (arith, items, map-append plain_entry c.args.self.now.desk.items.items (entry ∷ []), at.entries, is, entries_more config (calls_of before) calls call);
      fits = subst (FitsTurn held (length config.events)) (sym items) (record {
        few = omega (arith, length-append c.args.self.now.desk.items.items (entry ∷ []), c.requires.few);
        acts = All-push (λ (e : Entry Plain). FitsAct held (length config.events) e.act) c.args.self.now.desk.items.items entry
            at.fits.acts fits;
      });
      kept = at.kept;
      events = at.events;
      room = grind (arith, at.room, c.push_reserved.ensures.capacity);
    }
