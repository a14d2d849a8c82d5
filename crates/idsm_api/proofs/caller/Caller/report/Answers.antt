use Rattle.idsm_api.proofs.Names.{rules, refl}
use Rattle.idsm_api.proofs.CallerLemmas.{report_does}
use Rattle.idsm_api.proofs.caller.Caller.report.Goals as goal

pub returns-clause-does : goal.returns-clause-does
returns-clause-does c =
    report_does c.requires.fit (record { report = c.report-report.result; answer_is = c.answer_of_report.ensures; reports = search rules; shares = refl })
