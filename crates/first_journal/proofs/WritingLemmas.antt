-- A turn more, and the close, leave what was written that of all turns.
use Rattle.std.proofs.Common.{◌≡◌, ℕ, ◌+◌, ◌≤◌, ◌<◌, ◌^◌, true, List, [], ◌∷◌, ◌++◌, map, sym, ap, arith, ◌∙◌, Ok, Bool}
use Rattle.std.specs.Prelude.{Result, Err, IfOk, take}
use Rattle.std.proofs.lemmas.List.{take_at}
use Rattle.text_spec.proofs.JournalFacts.{flat_map-push}
use Rattle.ids_types.specs.Turns.{Turn}
use Rattle.ids_config.specs.Parts.{Parts}
use Rattle.ids_config.specs.declared.fault.ConfigFault.{ConfigFault}
use Rattle.journal.specs.Printing.{turn_text}
use Rattle.report_api.specs.{pass_memo}
use Rattle.main_function.specs.{Turned}
use Rattle.main_function.specs.declared.rest.Totals.{Totals}
use Rattle.idsm_api.proofs.ClosingLemmas.{counted}
use Rattle.idsm_api.specs.{IsWritten, told_by, AreAllCallers, AreCounted, CloseMade, IsFitManager, IsNewSetup, IsNewText, MakesSetup, MayTurn, Notes, StandsFor, TurnMade, chain_kept, chain_stands, manager_shares, most_bytes, passes_of}
use Rattle.idsm_api.specs.declared.answer.Answer.{Answer}
use Rattle.idsm_api.specs.declared.answer.Answer.TheVariants.{Done}
use Rattle.idsm_api.specs.declared.caller.Caller.{Caller}
use Rattle.idsm_api.specs.declared.making.Setup.{Setup}
use Rattle.idsm_api.specs.declared.manager.Manager.{Manager}
use Rattle.idsm_api.specs.declared.turning.Told.{Told}
use Rattle.first_journal.specs.declared.Outcome.{Outcome}
use Rattle.first_journal.specs.declared.Written.{Written}
use Rattle.first_journal.specs.Writing.{Adds, GoesOn, IsAfter, IsNew, IsOver, IsWrittenBy}

-- a manager is made of a text that has a configuration
pub made_of : (found : Result Parts ConfigFault) {setup : Setup} → MakesSetup found (Ok setup) → (config : Parts) × IsNewSetup config setup
made_of (Ok config) makes = (config, makes)
made_of (Err fault) makes = absurd makes

-- and what holds for whichever it is holds for that one
pub ends_over : {E : Type 0} (found : Result Parts ConfigFault) (setup : Setup) → MakesSetup found (Ok setup) → (result : Result Outcome E)
    → IfOk result (λ outcome. (config : Parts) → IsNew config setup.manager → IsOver config outcome)
    → IfOk result (λ outcome. IfOk found (λ config. IsOver config outcome))
ends_over (Ok config) setup makes (Ok outcome) over = over config (record { made_for = makes.made_for; stands = makes.stands_for_none })
ends_over (Ok config) setup makes (Err error) over = tt
ends_over (Err fault) setup makes result over = absurd makes

-- and has made no turn
pub none_made : {config : Parts} {setup : Setup} → IsNewSetup config setup → IsNewText true setup.manager.manager.log → IsAfter 0 setup.manager
none_made new text = record { fit = new.manager_fits; asked = text.asked_is; turns_are = new.stands_for_none.count_is; tick_is = new.stands_for_none.tick_is }

-- the next turn may be made
pub may_turn : {turns room : ℕ} {manager : Manager} → IsAfter turns manager → turns < 2 ^ 62 → most_bytes (manager_shares manager) ≤ room
    → MayTurn (turns + 1) manager room
may_turn is few enough = record {
  can = record { room = enough; few = omega (arith, is.turns_are, few) };
  later = omega (arith, is.tick_is);
  within = omega (arith, few);
}

-- what was written is that of the turns with the one that was made
written_then : {tick : ℕ} {desk : _} {givers : _} (old : Manager) {new : Manager} {before after : Written} {sent : List ℕ} → old.manager.log.asked ≡ true
    → (made : Turned chain_stands Notes chain_kept tick desk givers old.manager new.manager) → Adds new sent before after → sent ≡ new.manager.out.sent
    → (config : Parts) (turns : List Turn) → StandsFor config turns old → IsWrittenBy config turns before
    → IsWrittenBy config (turns ++ made.turn ∷ []) after
written_then old asked made adds is config turns stands was =
    let lines = made.noted_is.text_is (made.noted_is.asked_is ∙ asked) adds.not_missed in
    let more = flat_map-push turn_text turns made.turn in
    let bytes = (made.sends config turns stands).bytes in
    record { journal_is = cc (adds.journal_is, was.journal_is, lines, more); sent_are = cc (adds.sent_is, was.sent_are, bytes, is) }

-- the messages are the front of the buffer
pub front_is : {told : Told} {buffer left : List ℕ} (answer : Answer) (new : Manager) → answer ≡ Done → told ≡ told_by answer new.manager
    → IsWritten new.manager.out.sent buffer left → take told.bytes left ≡ new.manager.out.sent
front_is answer new is numbers written =
    let bytes = ap (λ (t : Told). t.bytes) (rw is at numbers) in
    rw written.is (take_at new.manager.out.sent _ _ (sym bytes))

-- so it goes on with a turn
pub goes_on : {turns : ℕ} {first old new : Manager} {none before after : Written} {buffer left sent : List ℕ} {quiet : Bool} → GoesOn turns first none old before
    → TurnMade (turns + 1) old buffer quiet new left → IsFitManager new → Adds new sent before after → sent ≡ new.manager.out.sent
    → GoesOn (turns + 1) first none new after
goes_on {old = old} goes made fit adds is = record {
  is_after = record {
    fit = fit;
    asked = made.turned.noted_is.asked_is ∙ goes.is_after.asked;
    turns_are = omega (arith, made.turned.turns_are, goes.is_after.turns_are);
    tick_is = ap (λ head. head.tick) made.turned.head_is ∙ made.turned.tick_is;
  };
  shares = ap manager_shares made.same ∙ goes.shares;
  keeps = λ config keeps.
      let kept = goes.keeps config keeps in
      record {
        turns = kept.turns ++ made.turned.turn ∷ [];
        stands = made.turned.stands_then config kept.turns kept.stands;
        is_written = written_then old goes.is_after.asked made.turned adds is config kept.turns kept.stands kept.is_written;
      };
}

-- the callers of a manager are still all of them
pub still_all : {old new : Manager} {callers : List Caller} → manager_shares new ≡ manager_shares old → AreAllCallers old callers → AreAllCallers new callers
still_all same are = record { all = rw same are.all; each = λ i caller at. rw same (are.each i caller at) }

-- and the close ends it
pub is_over : {turns tick : ℕ} {first old new : Manager} {none before after : Written} {buffer left sent : List ℕ} {callers : List Caller} {totals : Totals}
    → none.journal.items ≡ [] → none.sent.items ≡ [] → GoesOn turns first none old before → CloseMade tick old callers buffer new left
    → AreCounted callers totals → Adds new sent before after → sent ≡ new.manager.out.sent
    → (config : Parts) → IsNew config first → IsOver config (record { written = after; totals = totals })
is_over {old = old} {new = new} {callers = callers} journal messages goes made counts adds is config begun =
    let kept = goes.keeps config (record { turns = []; stands = begun.stands; is_written = record { journal_is = journal; sent_are = messages } }) in
    let same = counted callers new.manager.totals made.closed.counts in
    let sums = made.closed.sums config kept.turns kept.stands in
    record {
      turns = kept.turns ++ made.closed.turned.turn ∷ [];
      passes = map pass_memo (passes_of callers);
      is_written = written_then old goes.is_after.asked made.closed.turned adds is config kept.turns kept.stands kept.is_written;
      all_calls = made.closed.all_calls config kept.turns (rw goes.shares begun.made_for) kept.stands;
      sums = record {
        entries_are = counts.entries_are ∙ sym same.entries_are ∙ sums.entries_are;
        lost_events_are = counts.lost_events_are ∙ sym same.lost_events_are ∙ sums.lost_events_are;
        lost_contexts_are = counts.lost_contexts_are ∙ sym same.lost_contexts_are ∙ sums.lost_contexts_are;
      };
    }
