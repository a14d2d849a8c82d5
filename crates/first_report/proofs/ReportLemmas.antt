-- One report by each caller of a new manager.
use Rattle.std.proofs.Common.{◌≡◌, ℕ, suc, ◌+◌, ◌<◌, true≢false, None, List, [], ◌∷◌, length, refl, sym, ap, subst, ◌∙◌, arith, sum_by, slice_index_or, Ok}
use Rattle.std.proofs.lemmas.List.Sums.{sum_by-cons}
use Rattle.std.specs.List.{All}
use Rattle.std.specs.Prelude.{codes, Bool, Err}
use Rattle.std.specs.Str.{chars, is_utf8}
use Rattle.serde_json.proofs.OnLiterals.{serde_json_on_literals}
use Rattle.ids_config.specs.Parts.{Parts, plain_event}
use Rattle.ids_config.specs.Values.{event_value, parts_value}
use Rattle.config_json.specs.{configuration, event_in, parts_in, config_shape, event_shape}
use Rattle.config_json.specs.declared.fault.JsonFault.{JsonFault}
use Rattle.config_json.specs.declared.fault.JsonFault.TheVariants.{Config, NoMemory}
use Rattle.idsm_api.specs.declared.answer.Answer.{Answer}
use Rattle.idsm_api.specs.declared.answer.Answer.TheVariants.{Done, LostEvent, Spent, UnknownEvent, WithoutContext, ZeroCount}
use Rattle.idsm_api.specs.declared.caller.Caller.{Caller}
use Rattle.idsm_api.specs.declared.making.Setup.{Setup}
use Rattle.idsm_api.specs.declared.manager.Manager.{Manager}
use Rattle.idsm_api.specs.Callers.{with_lost, with_whole}
use Rattle.idsm_api.specs.{AreCounted, CallLog, Given, IsFitCaller, IsNewSetup, MakesSetup, MayTurn, TurnMade, manager_shares, most_bytes, ReportDoes, ReportLogs, given, log_of}
use Rattle.first_report.specs.Reporting.{HasReported, HaveReported, IsReady}

-- what each caller is given: event 0, seen once, and nothing else
abbrev pub first : Given
first = given (record { 0 = 0 }) 1 None []

-- a first report was accepted or lost
counts_one : (old : Caller) (answer : Answer) (log : CallLog) → IsReady old → ReportLogs first old answer log → log.accepted + log.lost ≡ 1
counts_one old Done log ready logs = ap (λ (l : CallLog). l.accepted + l.lost) (logs.2 ∙ ap (with_whole _) ready.none)
counts_one old WithoutContext log ready logs = absurd (omega (arith, logs.1))
counts_one old LostEvent log ready logs = ap (λ (l : CallLog). l.accepted + l.lost) (logs ∙ ap with_lost ready.none)
counts_one old UnknownEvent log ready logs = absurd (true≢false (sym ready.known ∙ logs.0))
counts_one old ZeroCount log ready logs = absurd (omega (arith, logs.0))
counts_one old Spent log ready logs = absurd (omega (arith, logs.0, ap (λ (l : CallLog). length l.calls) ready.none))
counts_one old other log ready logs = absurd logs

pub one_report : (old new : Caller) (answer : Answer) → IsReady old → IsFitCaller new → ReportDoes first old answer new → HasReported old new
one_report old new answer ready fits does = record { fits = fits; same = does.same; one = counts_one old answer (log_of new) ready does.logs }

-- the reports of all are as many as they are
summed : (callers : List Caller) → ((i : ℕ) (d : Caller) → i < length callers
    → (log_of (slice_index_or callers i d)).accepted + (log_of (slice_index_or callers i d)).lost ≡ 1)
    → sum_by (λ (c : Caller). (log_of c).accepted) callers + sum_by (λ (c : Caller). (log_of c).lost) callers ≡ length callers
summed [] each = refl
summed (caller ∷ callers) each = omega (
  arith,
  sum_by-cons (λ (c : Caller). (log_of c).accepted) caller callers,
  sum_by-cons (λ (c : Caller). (log_of c).lost) caller callers,
  each 0 caller (omega arith),
  summed callers (λ i d low. each (suc i) d (omega (arith, low))),
)

-- the configuration of the text
abbrev the_config : Parts
the_config = record {
  profile = 2;
  instance = 18;
  callers = 2;
  ring = 4;
  memory = 0;
  state = 0;
  classes = [];
  rate = None;
  traffic = None;
  events = plain_event 42 3 ∷ [];
  lost_events = None;
  lost_contexts = None;
  limited = None;
}

abbrev text : List ℕ
text = codes "{\"form\":2,\"instance\":18,\"callers\":2,\"ring\":4,\"events\":[{\"id\":42,\"sensor\":3}]}"

is_config : configuration text ≡ Ok the_config
unfolding serde_json_on_literals is_utf8 chars config_shape event_shape parts_value parts_in event_value event_in
is_config = refl

-- what is made of the text is made of that configuration
pub made_of : {setup : Setup} → MakesSetup (configuration text) (Ok setup) → IsNewSetup the_config setup
made_of {setup} makes = subst (λ found. MakesSetup found (Ok setup)) is_config makes

-- and it has no fault
pub no_fault : (fault : JsonFault) → MakesSetup (configuration text) (Err fault) → fault ≡ NoMemory
no_fault (Config fault) makes = let off = subst (λ found. MakesSetup found (Err (Config fault))) is_config makes in grind (arith, off)
no_fault NoMemory makes = refl

module _ {setup : Setup} (new : IsNewSetup the_config setup) where
  -- its callers are ready to report
  pub are_ready : All IsReady setup.callers.items
  are_ready = λ i d low. record { fits = new.callers_fit i d low; none = new.none_called i d low; known = new.events_are i d low 0 }

  -- its manager may make a first turn, whose messages 128 bytes take
  pub may_turn : {room : ℕ} → room ≡ 128 → MayTurn 1 setup.manager room
  may_turn is =
      let most : most_bytes (manager_shares setup.manager) ≡ 128 = new.most_is in
      let none : setup.manager.manager.turns ≡ 0 = new.stands_for_none.count_is in
      let last : setup.manager.manager.head.tick ≡ 0 = new.stands_for_none.tick_is in
      record {
        can = record { room = omega (arith, most, is); few = omega (arith, none) };
        later = omega (arith, last);
        within = omega arith;
      }

  -- and after that a close
  pub may_close : {manager : Manager} {buffer after : List ℕ} {quiet : Bool} {room : ℕ} → TurnMade 1 setup.manager buffer quiet manager after → room ≡ 128
      → MayTurn 2 manager room
  may_close {manager} made is =
      let most : most_bytes (manager_shares manager) ≡ 128 = ap most_bytes (ap manager_shares made.same) ∙ new.most_is in
      let none : setup.manager.manager.turns ≡ 0 = new.stands_for_none.count_is in
      record {
        can = record { room = omega (arith, most, is); few = omega (arith, made.turned.turns_are, none) };
        later = omega (arith, ap (λ head. head.tick) made.turned.head_is, made.turned.tick_is);
        within = omega arith;
      }

  -- and totals that count them count two reports
  pub count_two : {news : List Caller} {totals : _} → HaveReported setup.callers.items news → AreCounted news totals
      → totals.entries + totals.lost_events ≡ 2
  count_two {news} have counts =
      omega (arith, counts.entries_are, counts.lost_events_are, summed news have.each, have.same.as_many, new.callers_are)
