-- What a caller's calls did, from what its pass did.
use Rattle.idsm_api.proofs.Names.{◌≡◌, ℕ, ◌+◌, ◌∙◌, List, [], ◌∷◌, length, ap, arith, arc_value, length-map, Caller, IsFitCaller, caller_shares, Shared, Buffer, ticket_of, accepted_in, CarriesAll, Given, ReportTells, act_with, IsPassOf, calls_in, call_of, lost_contexts, lost_events, missing_in, pass_memo, ◌++◌, is_some, Pass, map_push}
use Rattle.permit_ring.proofs.LogLemmas.{got_of-append}
use Rattle.permit_ring.specs.{got_of, machine_ticket}
use Rattle.std.proofs.lemmas.List.{length-append}
use Rattle.ids_types.specs.Carries.{carried_by}
use Rattle.report_api.proofs.{OneCall, lost_event, put_call, put_without}
use Rattle.report_api.specs.Names.{Carried, Absent, Kept, Missing, Outcome, PassMemo}
use Rattle.report_api.specs.declared.answer.Report.{Report as ReportAnswer}
use Rattle.report_api.specs.declared.answer.Report.TheVariants as reports
use Rattle.idsm_api.specs.Calls.{AsksFor}
use Rattle.idsm_api.specs.{report_answer, HasAll, IsSameCaller, ReportDoes, ReportLogs, log_in, log_of, Reports, Sets, number_of}

-- each context that is missing was marked
abbrev AllMarked : PassMemo → Type 0
AllMarked pass = lost_contexts pass ≡ missing_in pass.log

-- the log of a pass after one call more
grown : {old new : PassMemo} {outcome : Outcome} {events contexts most : ℕ} → AllMarked old → AllMarked new
    → OneCall old outcome events contexts most new
    → log_in new ≡ record {
      calls = calls_in old.log ++ call_of outcome ∷ [];
      accepted = accepted_in old + length (got_of (outcome ∷ []));
      lost = lost_events old + events;
      missing = missing_in old.log + contexts;
    }
grown {old} {new} {outcome} was is call =
    let calls = ap calls_in call.log_is ∙ map_push call_of old.log outcome in
    let accepted = ap (λ (log : List Outcome). length (got_of log)) call.log_is ∙ ap length (got_of-append old.log (outcome ∷ []))
    ∙ length-append (got_of old.log) (got_of (outcome ∷ [])) in
    grind (arith, call, calls, accepted, was, is)

-- all bytes that are carried are there without their buffer
carried : (sizes bytes : List ℕ) (context : Carried Buffer) → CarriesAll sizes bytes context
    → HasAll bytes (carried_by (λ (buf : Buffer). buf.bytes) context)
carried sizes bytes Absent all = all
carried sizes bytes (Kept class claim buf) all = (all.0, all.1)
carried sizes bytes (Missing numbers) all = absurd all

-- a pass between two calls has decided them all
all_decided : {shared : Shared} {pass : Pass} → IsPassOf shared pass → length (log_in (pass_memo pass)).calls ≡ (pass_memo pass).view.calls
all_decided {pass = pass} mine =
    let its = mine.at.caller.is_seat in
    let none : is_some (pass_memo pass).view.held ≡ is_some (machine_ticket (ticket_of pass.seat)) = ap is_some its.ticket_is in
    let many = length-map (pass_memo pass).log call_of in
    grind (arith, mine.at.caller.in_order.decided, its.not_armed, none, mine.is_idle, many)

-- the log after a report; its caller keeps its number
did : (given : Given) (old new : Caller) (answer : ReportAnswer) → IsFitCaller old → AllMarked (pass_memo new.pass)
    → ReportTells (caller_shares old) given (pass_memo old.pass) answer (pass_memo new.pass)
    → (number_of new ≡ number_of old) × ReportLogs given old (report_answer answer) (log_of new)
did given old new reports.UnknownEvent fit marked tells = (ap (λ (p : PassMemo). p.number) tells.1, (tells.0, ap log_in tells.1))
did given old new reports.ZeroCount fit marked tells = (ap (λ (p : PassMemo). p.number) tells.2, (tells.1, ap log_in tells.2))
did given old new reports.PassSpent fit marked tells = (ap (λ (p : PassMemo). p.number) tells.2, (all_decided fit ∙ tells.1, ap log_in tells.2))
did given old new (reports.LostEvent look) fit marked tells =
    let call = lost_event _ (pass_memo old.pass) tells.1.0 look tells.1.1 (pass_memo new.pass) tells.1.2 tells.1.3 in
    let after = grown fit.at.contexts_are marked call in (call.number_is, grind (arith, after))
did given old new (reports.Accepted t) fit marked tells =
    let put = tells.1.2 in
    let call = put_call _ (pass_memo old.pass) tells.1.0 t tells.1.1 (act_with given put.0) (pass_memo new.pass) put.2 in
    let after = grown fit.at.contexts_are marked call in
    (call.number_is, (carried_by (λ (buf : Buffer). buf.bytes) put.0, carried _ _ put.0 put.1, grind (arith, after)))
did given old new (reports.WithoutContext t looks) fit marked tells =
    let put = tells.1.2 in
    let call = put_without _ (pass_memo old.pass) tells.1.0 t tells.1.1 (act_with given (Missing looks)) put.2.0 (pass_memo new.pass) put.2.1 in
    let after = grown fit.at.contexts_are marked call in
    (call.number_is, (looks, put.0, grind (arith, after)))

-- so a report did what its answer says
pub report_does : {given : Given} {old new : Caller} {answer : _} → IsFitCaller old → Reports given old answer new → ReportDoes given old answer new
report_does {given} {old} {new} fit told =
    let all = did given old new told.report fit told.reports.mine.at.contexts_are told.reports.told in
    record { same = record { shares = ap arc_value told.shares; number = all.0 }; logs = rw told.answer_is all.1 }

-- and a control leaves its caller the same, whose number is that of its claimant
pub set_same : (asks : AsksFor) (old new : Caller) (answer : _) → IsFitCaller old → Sets asks old answer new → IsSameCaller old new
set_same asks old new answer fit told =
    let its = told.controls.mine.at in
    record { shares = ap arc_value told.shares; number = cc (its.caller.number_is, its.number_is, told.controls.claimant_is, fit.at.number_is, fit.at.caller.number_is) }
