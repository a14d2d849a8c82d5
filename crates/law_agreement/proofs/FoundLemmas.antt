-- What was found in files, and what a later run finds in them.
use Rattle.cmd_steps.proofs.Names.{AskedFor, Files, IsNoneOf, List, None, Ok, Option, Parts, ReplayFiles, Some, Command, command_of, [], are_names, asked_in, file, file_of, if_found, le-ltb, length, over, over_parts, refl, replay, replay_of, true, written_by, ℕ, ◌∷◌, ◌≡◌, ◌≤◌, rounds_in, ◌>>=◌, arith}
use Rattle.ids_config.specs.Values.{parts_value}
use Rattle.std.proofs.lemmas.Bool.Decides.{nat_tests}
use Rattle.std.specs.Prelude.{option_map, bytes_eq, codes, if◌then◌else◌, Bool}
use Rattle.serde_json.specs.Data.{Data}
use Rattle.cmd_words.proofs.CommandLemmas.{gen_none}
use Rattle.cmd_words.specs.Command as Words
use Rattle.cmd_files.specs.declared.stop.Refusal.TheVariants.{BadConfig}
use Rattle.config_json.specs.{config_of, configuration}
use Rattle.cmd_steps.proofs.MadeLemmas.{are_apart}

-- ---- configurations

events_checked : (config : Parts) → parts_value config ≡ Ok tt → length config.events ≤ 256
unfolding parts_value
events_checked config e = grind (arith, nat_tests, e)

-- a configuration has at most 256 events
pub few_events : (tree : Option Data) (config : Parts) → config_of tree ≡ Ok config → length config.events ≤ 256
few_events tree config is = grind (arith, is, events_checked)

-- the configuration of what a replay was asked for is that of its file
pub config_read : (names : ReplayFiles) (files : Files) (asked : AskedFor) → over (asked_in names) files ≡ Ok asked
    → (text : List ℕ) × (file_of 1048576 names.config files ≡ Ok text) × (configuration text ≡ Ok asked.config)
config_read names files asked is =
    let text = over_parts (file 1048576 names.config) (λ bytes. if_found BadConfig (configuration bytes) >>= rounds_in names.trace) asked files is in
    (text.0, grind (arith, text.1), grind (arith, text.2))

-- ---- files

-- a file that is there, and not too long
pub file_is : (limit : ℕ) (name bytes : List ℕ) (files : Files) → files name ≡ Some bytes → length bytes ≤ limit
    → file_of limit name files ≡ Ok bytes
file_is limit name bytes files there short = rw (there, le-ltb limit (length bytes) short) refl

-- ---- names

no_replay : {F : Type 0} (make : F → Command) → ((files : F) → replay_of (Some (make files)) ≡ None) → (files : Option F)
    → replay_of (option_map make files) ≡ None
no_replay make none files = grind (arith, none)

other : (test : Bool) (x y : Option Command) (names : ReplayFiles) → replay_of x ≡ None → replay_of (if test then x else y) ≡ Some names
    → replay_of y ≡ Some names
other test x y names none is = grind (arith, none, is)

-- the words of a replay
named_words : (word : List ℕ) (words : List (List ℕ)) (names : ReplayFiles) → replay_of (Words.named word words) ≡ Some names
    → (are_names words ≡ true) × (replay_of (option_map replay (Words.replay_in words)) ≡ Some names)
unfolding Words.named
named_words word words names is = grind (arith, is)

-- its configuration is none of the files that it writes
pub words_apart : (words : List (List ℕ)) (names : ReplayFiles) → replay_of (command_of words) ≡ Some names
    → IsNoneOf (written_by (replay names)) names.config
words_apart [] names is = absurd cc
words_apart (word ∷ words) names is =
    let is = other (bytes_eq word (codes "gen")) _ _ names (gen_none (word ∷ words)).0 is in
    let is = other (bytes_eq word (codes "sign")) _ _ names (no_replay Words.sign (λ f. refl) (Words.keyed_in words)) is in
    let is = other (bytes_eq word (codes "verify")) _ _ names (no_replay Words.verify (λ f. refl) (Words.keyed_in words)) is in
    let is = other (bytes_eq word (codes "bundle")) _ _ names (no_replay Words.bundle (λ f. refl) (Words.sized_in words)) is in
    let is = other (bytes_eq word (codes "export")) _ _ names (no_replay Words.export (λ f. refl) (Words.export_in words)) is in
    let own = named_words word words names is in
    go words own.0 own.1
  where
    go : (words : List (List ℕ)) → are_names words ≡ true → replay_of (option_map replay (Words.replay_in words)) ≡ Some names
        → IsNoneOf (written_by (replay names)) names.config
    go (config ∷ trace ∷ messages ∷ memory ∷ journal ∷ []) are is =
        grind (arith, is, (are_apart (config ∷ trace ∷ messages ∷ memory ∷ journal ∷ []) are).0.1)
    go words are is = absurd cc
