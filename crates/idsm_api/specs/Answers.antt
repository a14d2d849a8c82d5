-- The number of each answer, and the answers of reports and controls.
use Rattle.std.specs.Prelude.{ℕ}
use Rattle.report_api.specs.declared.answer.Control.{Control}
use Rattle.report_api.specs.declared.answer.Control.TheVariants as controls
use Rattle.report_api.specs.declared.answer.Report.{Report}
use Rattle.report_api.specs.declared.answer.Report.TheVariants as reports
use Rattle.idsm_api.specs.declared.answer.Answer.{Answer}
use Rattle.idsm_api.specs.declared.answer.Answer.TheVariants.{Done, Unset, OtherRole, LostEvent, WithoutContext, UnknownEvent, ZeroCount, Spent, TickBack, TickTooLarge, OutOfRange, NoMemory, Configuration, SmallBuffer, Occupied, BadMessage}

-- the number of an answer
abbrev pub code_of : Answer → ℕ
code_of Done = 0
code_of Unset = 1
code_of OtherRole = 2
code_of LostEvent = 3
code_of WithoutContext = 4
code_of UnknownEvent = 5
code_of ZeroCount = 6
code_of Spent = 7
code_of TickBack = 8
code_of TickTooLarge = 9
code_of OutOfRange = 10
code_of NoMemory = 11
code_of Configuration = 12
code_of SmallBuffer = 13
code_of Occupied = 14
code_of BadMessage = 20

-- the answer of a report
abbrev pub report_answer : Report → Answer
report_answer (reports.Accepted ticket) = Done
report_answer (reports.WithoutContext ticket looks) = WithoutContext
report_answer (reports.LostEvent look) = LostEvent
report_answer reports.UnknownEvent = UnknownEvent
report_answer reports.ZeroCount = ZeroCount
report_answer reports.PassSpent = Spent

-- the answer of a control
abbrev pub control_answer : Control → Answer
control_answer (controls.Accepted ticket) = Done
control_answer (controls.LostEvent look) = LostEvent
control_answer controls.UnknownEvent = UnknownEvent
control_answer controls.PassSpent = Spent
