-- What a line in form tells, as the definitions of the journal's text see it.
use Rattle.std.specs.Prelude.{ℕ, List}
use Rattle.text_spec.specs.JournalForm.{index, entry_of}
use Rattle.text_spec.specs.JournalText.{Carried, Absent, Kept, Missing, Act, Report, State, SetMode, Entry, Loss}
use Rattle.journal.specs.declared.line.RawContext.{RawContext}
use Rattle.journal.specs.declared.line.RawContext.TheVariants as contexts
use Rattle.journal.specs.declared.line.RawReport.{RawReport}
use Rattle.journal.specs.declared.line.RawChange.{RawChange}
use Rattle.journal.specs.declared.line.RawChange.TheVariants as changes
use Rattle.journal.specs.declared.line.RawControl.{RawControl}
use Rattle.journal.specs.declared.line.RawLoss.{RawLoss}

-- the context, with its bytes
abbrev pub context_told : RawContext → Carried (List ℕ)
context_told contexts.Absent = Absent
context_told (contexts.Kept class claim bytes) = Kept class claim bytes
context_told (contexts.Missing numbers) = Missing numbers

-- what a report asks, with its context's bytes
abbrev pub report_act : RawReport → Act (List ℕ)
report_act report = Report (index report.event) report.count report.stamp (context_told report.context)

-- the report
abbrev pub report_told : RawReport → Entry (List ℕ)
report_told report = entry_of report.caller report.call (report_act report)

-- what a control asks
abbrev pub change_told : RawChange → Act (List ℕ)
change_told (changes.State state) = State state
change_told (changes.SetMode event mode) = SetMode (index event) mode

-- the control
abbrev pub control_told : RawControl → Entry (List ℕ)
control_told control = entry_of control.caller control.call (change_told control.change)

-- the loss
abbrev pub loss_told : RawLoss → Loss
loss_told loss = record { caller = loss.caller; call = loss.call; given = loss.given }
