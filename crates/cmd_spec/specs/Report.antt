-- The command `report`: what its input files hold, the file that it writes, and its text.
use Rattle.std.specs.Prelude.{◌++◌, ◌==◌, ◌∷◌, ◌≡◌}
use Rattle.cmd_spec.specs.Names.{BadSource, Bool, Instance, List, MessageParts, Reading, Sources, Work, [], codes, decimal, false, file, gives, if_found, instance_of, joined, length, list_any, messages_read, refuses, sum_by, true, ℕ, ◌>>=◌}
use Rattle.ids_reporter.specs.Forwarding.{AreMerged}
use Rattle.ids_reporter.specs.declared.index.Instance.{Instance as Managers}
use Rattle.ids_reporter.specs.declared.index.Instance.TheVariants.{Empty, One, Mixed}
use Rattle.cmd_spec.specs.Packing.{one_file}

-- ---- sources

-- the messages are of this instance
abbrev pub is_of : ℕ → Managers → Bool
is_of instance (One other) = instance == other
is_of instance managers = false

-- messages of these managers cannot stand beside the sources: they are of two, or of one whose messages are there
abbrev pub clashes : Sources → Managers → Bool
clashes sources Empty = false
clashes sources (One instance) = list_any (λ source. is_of instance (instance_of source)) sources
clashes sources Mixed = true

-- the messages of the file of this name, where they do not clash
abbrev pub unless_clash : List ℕ → List MessageParts → Bool → Reading (List MessageParts)
unless_clash name messages true = refuses (Instance name)
unless_clash name messages false = gives messages

-- what a manager's file holds, after these sources
abbrev pub source_in : Sources → List ℕ → Reading (List MessageParts)
source_in sources name = do
  bytes ← file 8388608 name
  messages ← if_found (BadSource name) (messages_read bytes)
  unless_clash name messages (clashes sources (instance_of messages))

-- the sources, and those of the files after them: each is judged before the next is read
abbrev pub sources_in : Sources → List (List ℕ) → Reading Sources
sources_in sources [] = gives sources
sources_in sources (name ∷ names) = source_in sources name >>= λ messages. sources_in (sources ++ messages ∷ []) names

-- ---- the work

-- the line `sources S messages M`, with its line feed, that counts the sources and all their messages
abbrev pub report_text : Sources → List ℕ
report_text sources =
    codes "sources " ++ (decimal (length sources) ++ (codes " messages " ++ (decimal (sum_by length sources) ++ codes "\n")))

-- the sources, merged in some way, and their line
pub record IsReportWork (target : List ℕ) (sources : Sources) (work : Work) : Type 0 where
  pub messages : List MessageParts
  pub merged : AreMerged sources messages
  pub work_is : work ≡ one_file target (joined messages) (report_text sources)
