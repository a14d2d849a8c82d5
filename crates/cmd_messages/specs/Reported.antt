-- What a run of `report` does, with the drain that it answers.
use Rattle.std.specs.Prelude.{◌≡◌}
use Rattle.cmd_steps.specs.Names.{Files, Heard, List, Ok, Option, ReportFiles, Shelved, Some, [], over, report, ℕ}
use Rattle.ids_reporter.specs.Forwarding.{IsForwarded}
use Rattle.ids_reporter.specs.Sources.{Sources}
use Rattle.ids_reporter.specs.declared.drain.Drain.{Drain}
use Rattle.cmd_steps.specs.Answered.{RunsWith}
use Rattle.cmd_spec.specs.Report.{report_text, sources_in}

-- the file holds the messages that the drain took, which are all those of the input files, merged; the text counts them
pub record Reported (names : ReportFiles) (drain : Drain) (said : List ℕ) (old new : Files) : Type 0 where
  pub sources : Sources
  pub asked : over (sources_in [] names.sources) old ≡ Ok sources
  pub out : List ℕ
  pub forwarded : IsForwarded sources drain out
  pub written : new names.target ≡ Some out
  pub text : said ≡ report_text sources

-- what it does, where the words give these files or none
abbrev pub Reports : Option ReportFiles → Option Drain → ℕ → Shelved → Shelved → Heard → Heard → Type 0
Reports names drain status old new before after = RunsWith report Reported names drain status old new before after
