-- What is generated from options: a configuration, a trace, the journal that this trace gives where nothing is lost, and
-- the line that tells of it.
use Rattle.std.specs.Prelude.{◌≡◌, ℕ, ◌*◌, List, [], ◌++◌, length, codes, decimal, string_bytes, IsTrue}
use Rattle.hex.specs.Hex.{encode_lower}
use Rattle.sha2.specs.Sha256.{sha256}
use Rattle.ids_types.specs.Turns.{Turn}
use Rattle.config_json.specs.Printed.{config_text}
use Rattle.journal.specs.Answers.{told}
use Rattle.text_spec.specs.{journal_text, trace_text}
use Rattle.trace_text.specs.TraceView.{Traced}
use Rattle.filter_chain.specs.History.{count_of, messages_of, rows_of}
use Rattle.gen_options.specs.Ranges.{is_in_range}
use Rattle.gen_options.specs.declared.options.Options.{Options}
use Rattle.ids_config.specs.Parts.{Parts}
use Rattle.gen_recording.specs.GeneratedConfig.{config_of}
use Rattle.gen_recording.specs.GeneratedTrace.{rounds_of}
use Rattle.gen_recording.specs.Quiet.{history_of}
use Rattle.gen_recording.specs.declared.generated.Generated.{Generated}

-- the turns of the journal
abbrev pub turns_for : Options → List Turn
turns_for o = history_of (config_of o) (rounds_of o)

-- ---- the three files

-- the configuration's text
unfoldable pub config_for : Options → List ℕ
config_for o = config_text (config_of o)

-- the trace's text
unfoldable pub trace_for : Options → List ℕ
trace_for o = trace_text (rounds_of o)

-- the journal's text, in which no call is lost
unfoldable pub journal_for : Options → List ℕ
journal_for o = journal_text (told (turns_for o) [])

-- ---- the line

-- the SHA-256 digest of bytes
unfoldable pub digest_of : List ℕ → List ℕ
digest_of bytes = sha256 bytes

-- the line `reports R messages M records K sha256 H`, with its line feed
abbrev pub gen_line : (reports messages records : ℕ) → List ℕ → List ℕ
gen_line reports messages records digest =
    codes "reports " ++ (decimal reports
    ++ (codes " messages " ++ (decimal messages
    ++ (codes " records " ++ (decimal records
    ++ (codes " sha256 " ++ (encode_lower digest ++ codes "\n")))))))

-- it tells how many reports there are, and of the journal how many messages it gives, how many records its event memory
-- has, and the digest of the messages
unfoldable pub line_for : Options → List ℕ
line_for o =
    let config = config_of o in
    let turns = turns_for o in
    gen_line (4 * (o.callers * o.rounds)) (count_of config turns) (length (rows_of config turns)) (digest_of (messages_of config turns))

-- ---- what is made of options

-- the options are in their ranges, and this is their configuration and their trace
pub record IsMade (o : Options) (parts : Parts) (traced : Traced) : Type 0 where
  pub range : IsTrue (is_in_range o)
  pub config : parts ≡ config_of o
  pub trace : traced ≡ record { callers = o.callers; rounds = rounds_of o }

-- these are their files and their line
pub record IsGenerated (o : Options) (made : Generated) : Type 0 where
  pub config : string_bytes made.config ≡ config_for o
  pub trace : made.trace.items ≡ trace_for o
  pub journal : made.journal.items ≡ journal_for o
  pub line : made.line.items ≡ line_for o
