-- `fold` and `check` of what a replay left.
use Rattle.cmd_steps.proofs.Names.{List, Ok, ReplayFiles, Shelved, arith, bytes_eq-Decides, codes, does, file_of, fold_work, journal_text, judge, messages_of, only_said, over, over_then, reading_of, recorded_in, refl, told, ℕ, ◌∙◌, ◌≡◌, Files, Parts, Told, folded_in}
use Rattle.config_json.specs.{configuration}
use Rattle.idsm_run.specs.Replayed.{Replayed}
use Rattle.law_agreement.proofs.JournalLemmas.{messages_are_short}
use Rattle.law_agreement.specs.Agreement.{FindsLeft, WasReplayed, check_again, fold_again, left_by}
use Rattle.law_agreement.proofs.CausalLemmas.{folds_as}
use Rattle.law_agreement.proofs.FoundLemmas.{file_is, words_apart, config_read, few_events}

-- what a recording's files hold
recorded_is : (names : ReplayFiles) (files : Files) (text bytes : List ℕ) (config : Parts) (own : Told) → file_of 1048576 names.config files ≡ Ok text
    → configuration text ≡ Ok config → file_of 16777216 names.journal files ≡ Ok bytes → folded_in config bytes ≡ Ok own
    → over (recorded_in (left_by names)) files ≡ Ok (record { config = config; told = own })
recorded_is names files text bytes config own here is there folds = cc

module _ (names : ReplayFiles) (old left found : Shelved) (was : WasReplayed names old left) (finds : FindsLeft names left found) where
  -- what the replay did
  abbrev pub history : Replayed names was.manager was.ran.answers.said old.files left.files
  history = was.ran.answers.files_tell was.tells

  -- what its journal tells
  abbrev pub own : Told
  own = told history.gives.turns history.gives.losses

  -- what the files hold that it left
  recorded : over (recorded_in (left_by names)) found.files ≡ Ok (record { config = history.config; told = own })
  recorded =
      let config = config_read names old.files _ history.asked in
      let stays : found.files names.config ≡ old.files names.config =
      finds.same names.config ∙ was.others names.config (words_apart was.words names was.asked) in
      let journal = file_is 16777216 names.journal (journal_text own) found.files (finds.same names.journal ∙ history.written.1.1.0)
      (rw history.written.1.1.0 at finds.short) in
      let folds = folds_as history.config (journal_text own) own (few_events _ history.config config.2)
      (record { fits = history.history.fits; is_text = refl }) history.history.causal in
      recorded_is names found.files config.0 (journal_text own) history.config own (rw stays config.1) config.2 journal folds

  pub fold_serves : (messages memory : List ℕ) → judge (fold_again names messages memory) found.files
      ≡ Ok (does (fold_work (record { from = left_by names; messages = messages; memory = memory }) history.config own.turns))
  unfolding reading_of
  fold_serves messages memory = over_then (recorded_in (left_by names)) _ _ found.files recorded

  -- the messages may be read: they are at most four times the journal
  pub check_serves : judge (check_again names) found.files ≡ Ok (does (only_said (codes "same\n")))
  unfolding reading_of
  check_serves =
      let sent = messages_of history.config own.turns in
      let there = file_is 67108864 names.messages sent found.files (finds.same names.messages ∙ history.written.0)
      (omega (arith, messages_are_short history.config own, rw history.written.1.1.0 at finds.short)) in
      over_then (recorded_in (left_by names)) _ _ found.files recorded ∙ cc (there, (bytes_eq-Decides sent sent).1 refl)
