-- How the reading of each command may end.
use Rattle.cmd_spec.proofs.Names.{BadConfig, CannotRead, Comes, Command, ConfigFault, Contains, Err, List, MayRefuse, Ok, Reading, Refusal, Refused, Refuses, Result, Shelved, Stop, Task, TooLong, [], arith, bundle, check, configuration, decode, fold, gen, gives, if_found, inl, inr, keep, migrate, read_by, reading_of, reads, recall, refl, refuses, replay, report, sign, unbundle, verify, ℕ, ⊤, ◌>>=◌, ◌∷◌, told_in, file, messages_of, Parts, ReportFiles, Sources, check_judged, explain, export, reports, sources_in, suc}

-- a file that a command reads may be too long for it
long_may : (command : Command) (name : List ℕ) → Contains (read_by command) name → MayRefuse command (TooLong name)
long_may command name is = grind (arith, is)

-- ---- whatever reading comes to

-- so the command may end, whatever the files are: by a refusal that it may meet, or with a task that may be refused so
abbrev pub AllEnd : Command → Reading Task → Type 0
AllEnd command (gives task) = (refusal : Refusal (List ℕ)) → Refuses task refusal → MayRefuse command refusal
AllEnd command (refuses why) = MayRefuse command why
AllEnd command (reads limit name next) = Contains (read_by command) name × ((bytes : List ℕ) → AllEnd command (next bytes))

-- what it may end with that reads so
abbrev pub MayEnd : Command → Result Task (Stop (List ℕ)) → Type 0
MayEnd command (Ok task) = AllEnd command (gives task)
MayEnd command (Err (CannotRead name)) = Contains (read_by command) name
MayEnd command (Err (Refused why)) = MayRefuse command why
MayEnd command (Err other) = ⊤

pub all_end : (command : Command) (reading : Reading Task) (answer : Result Task (Stop (List ℕ))) (old : Shelved) → AllEnd command reading
    → Comes reading answer old → MayEnd command answer
all_end command (reads limit name next) answer old all (inl (inl is)) = rw is all.0
all_end command (reads limit name next) answer old all (inl (inr is)) = rw is.0 (long_may command name all.0)
all_end command (reads limit name next) answer old all (inr found) = all_end command (next found.0) answer old (all.1 found.0) found.2
all_end command other answer old all comes = rw comes all

-- the sources of a report, one after the other
sources_may : (files : ReportFiles) (names : List (List ℕ)) → ((name : List ℕ) → Contains names name → Contains files.sources name)
    → (sources : Sources) → AllEnd (report files) (sources_in sources names >>= λ all. gives (reports files.target all))
sources_may files [] are sources = λ refusal none. absurd none
sources_may files (name ∷ names) are sources =
    let is = are name (0, omega arith, refl) in
    (is, λ bytes. grind (arith, is, sources_may files names (λ n at. are n (suc at.0, omega (arith, at.1), at.2))))

-- ---- the commands

second_of : (a b : List ℕ) → Contains (a ∷ b ∷ []) b
second_of a b = (1, omega arith, refl)

pub may_end : (command : Command) → AllEnd command (reading_of command)
unfolding reading_of
may_end (fold files) = ((0, omega arith, refl), λ text. grind (arith, second_of files.from.config files.from.journal))
may_end (check files) = ((0, omega arith, refl), λ text. go (configuration text))
  where
    go : (found : Result Parts ConfigFault) → AllEnd (check files) ((if_found BadConfig found >>= told_in files.from.journal)
        >>= λ own. file 67108864 files.messages >>= λ bytes. check_judged bytes (messages_of own.config own.told.turns))
    go (Err fault) = record { met = refl; names = tt }
    go (Ok config) =
        let messages : Contains (read_by (check files)) files.messages = (2, omega arith, refl) in
        ((1, omega arith, refl), λ text. grind (arith, messages))
may_end (decode name) = ((0, omega arith, refl), λ bytes. grind (arith))
may_end (gen wanted) = λ refusal none. absurd none
may_end (migrate files) = ((0, omega arith, refl), λ text. grind (arith))
may_end (replay files) = ((0, omega arith, refl), λ text. grind (arith, second_of files.config files.trace))
may_end (sign names) = ((0, omega arith, refl), λ text. grind (arith, second_of names.key names.files.source))
may_end (verify names) = ((0, omega arith, refl), λ text. grind (arith, second_of names.key names.files.source))
may_end (bundle names) = ((0, omega arith, refl), λ bytes refusal refuses. grind (arith, refuses.2))
may_end (unbundle names) = ((0, omega arith, refl), λ bytes refusal refuses. grind (arith, refuses.2))
may_end (report files) = sources_may files files.sources (λ name is. is) []
may_end (keep names) = ((0, omega arith, refl), λ text. grind (arith, second_of names.from.config names.from.journal))
may_end (recall names) = λ refusal none. absurd none
may_end (explain names) = ((0, omega arith, refl), λ text. grind (arith, second_of names.config names.journal))
may_end (export names) = ((0, omega arith, refl), λ bytes. grind (arith))
