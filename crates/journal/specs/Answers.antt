-- What the answers of the reader say, by cases.
use Rattle.std.specs.Prelude.{ℕ, ◌==◌, ◌&&◌, Bool, List, Result, Ok, ⊤, length, nat_le, nat_lt, slice_index}
use Rattle.ids_config.specs.Parts.{Parts}
use Rattle.ids_config.specs.Steps.{◌>>◌, asks}
use Rattle.ids_types.specs.Turns.{Turn}
use Rattle.text_spec.specs.{IsJournal, journal_in, Past, is_call, next, Fails}
use Rattle.text_spec.specs.JournalText.{Loss, Told, Line}
use Rattle.text_spec.specs.declared.fault.TextFault.{TextFault}
use Rattle.text_spec.specs.declared.fault.TextFault.TheVariants as faults

-- turns and losses
abbrev pub told : List Turn → List Loss → Told
told turns losses = record { turns = turns; losses = losses }

-- where a line is bad the text is no journal
abbrev pub HasNone : Parts → List ℕ → TextFault → Type 0
HasNone config text (faults.Line line number) = (told : Told) → IsJournal config text told → ⊥
HasNone config text faults.NoMemory = ⊤

-- the first bad line of the text, or want of memory
abbrev pub IsFirstBad : Parts → List ℕ → TextFault → Type 0
IsFirstBad config text fault = Fails (journal_in config text) fault

-- the lines so far with one more, where it has no fault
abbrev pub added : Past → Line → Result ⊤ ℕ → Result Past ℕ
added past line fault = fault >> Ok (next past line)

-- what the lines so far ask of an entry by this call of a caller. Its act fits where its numbers are in their ranges,
-- and is known where its event may stand there
abbrev pub entry_asks : Past → ℕ → ℕ → Bool → Bool → Result ⊤ ℕ
entry_asks past caller call fits known =
    asks 2 (nat_lt 0 (length past.told.turns) && length past.told.losses == 0)
    >> asks 3 (is_call caller call && fits)
    >> asks 4 known
    >> asks 6 (nat_le (slice_index past.calls caller) call)
    >> asks 7 (nat_lt past.entries 1024)
