-- What words give, by what clap finds in them.
-- Source: docs/COMMANDS.md.
use Rattle.std.specs.Prelude.{ℕ, List, [], ◌∷◌, Option, Some, None, codes, if◌then◌else◌}
use Rattle.std.specs.Str.Parse.{digits_value, without_leading_plus}
use Rattle.clap.specs.ValueTests.{is_unsigned_in}
use Rattle.clap.specs.Words.{Kinds, Row, Text, fault_of, first_of, matches_of, one_of}
use Rattle.gen_options.specs.CommandLine.{command_line}
use Rattle.gen_options.specs.Given.{Wanted}
use Rattle.gen_options.specs.Ranges.{is_in_range}
use Rattle.gen_options.specs.declared.options.Options.{Options}

-- the next step, where there was something
infixl 10 ◌>>=◌
abbrev pub ◌>>=◌ : {A B : Type 0} → Option A → (A → Option B) → Option B
None >>= f = None
(Some x) >>= f = f x

-- ---- what clap finds

-- why clap refuses the words, the first of which is the command's own
unfoldable pub refusals : List Text → Kinds
refusals words = fault_of command_line words

-- what it finds for each option and name
unfoldable pub found : List Text → List Row
found words = matches_of command_line words

-- ---- what they give

-- the number of 64 bits that a text writes: digits, maybe after a plus
abbrev pub number_in : Text → Option ℕ
number_in text =
    if is_unsigned_in 0 18446744073709551615 text then Some (digits_value 10 (without_leading_plus text)) else None

-- the number of an option
abbrev pub number_by : Text → List Row → Option ℕ
number_by id rows = one_of id rows >>= number_in

-- the options, where all are in their ranges
abbrev pub in_range : Options → Option Options
in_range options = if is_in_range options then Some options else None

-- the options
abbrev pub options_by : List Row → Option Options
options_by rows = do
  start ← number_by (codes "start") rows
  callers ← number_by (codes "callers") rows
  rounds ← number_by (codes "rounds") rows
  events ← number_by (codes "events") rows
  in_range (record { start = start; callers = callers; rounds = rounds; events = events })

-- the options and the names
abbrev pub given_by : List Row → Option Wanted
given_by rows = do
  options ← options_by rows
  config ← first_of (codes "CONFIG") rows
  trace ← first_of (codes "TRACE") rows
  journal ← first_of (codes "JOURNAL") rows
  Some (record { options = options; config = config; trace = trace; journal = journal })

-- nothing where there is a refusal
abbrev pub unless_refused : {A : Type 0} → Kinds → Option A → Option A
unless_refused [] wanted = wanted
unless_refused (kind ∷ kinds) wanted = None

-- what the words give: nothing where clap refuses them, or where a number is out of its range
abbrev pub words_give : List Text → Option Wanted
words_give words = unless_refused (refusals words) (given_by (found words))
