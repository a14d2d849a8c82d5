-- What a manager wrote turn by turn is a journal, and so is each beginning of it by turns.
use Rattle.cmd_steps.proofs.Names.{AllByRecursion, Files, List, Ok, Parts, Turn, [], append-nil, append_assoc, arith, bytes_eq-Decides, check_judged, codes, config_in, does, entries_of, file, file_of, flat_map-append, folded_in, journal_text, judge, map, messages_of, only_said, over, over_then, reading_of, recorded_in, refl, reverse, suc, sym, take, told, told_in, zero, ℕ, ◌>>=◌, ◌++◌, ◌∙◌, ◌∷◌, ◌≡◌}
use Rattle.std.proofs.lemmas.Grind.{reverse_onto}
use Rattle.std.proofs.lemmas.List.{map-append, reverse-append}
use Rattle.chain_spec.specs.Chain.{IsCausal}
use Rattle.chain_spec.specs.ByEvent.{tick_of}
use Rattle.chain_spec.specs.Quiet.{HaveIntervals, IsQuiet, TellTheSame}
use Rattle.chain_spec.specs.Windows.{EndBy}
use Rattle.chain_spec.proofs.CoverLemmas.{end_later}
use Rattle.chain_spec.proofs.QuietLemmas.{quiet_causal, quiet_same}
use Rattle.history_spec.specs.{KeepUpFrom}
use Rattle.cmd_steps.specs.Names.{Shelved}
use Rattle.cmd_words.specs.Command.{CheckFiles, check}
use Rattle.journal.proofs.FittingLemmas.{beginnings_fit, turns_in_range_fit}
use Rattle.journal.proofs.PrintingLemmas.{text_by_turns}
use Rattle.journal.specs.Printing.{turns_text}
use Rattle.law_agreement.proofs.CausalLemmas.{causal_before, folds_as}
use Rattle.law_agreement.proofs.FoundLemmas.{file_is}
use Rattle.law_agreement.proofs.JournalLemmas.{messages_are_short}
use Rattle.law_agreement.specs.Live.{HoldTurns, MakeAJournal}
use mathlib.Core.List.{reverse_aux}

-- the first turns of a causal history are one
causal_front : (config : Parts) (k : ℕ) (turns before : List Turn) → IsCausal config (reverse_aux turns before) → IsCausal config (reverse_aux (take k turns) before)
causal_front config zero turns before is = causal_before config turns before is
causal_front config (suc k) [] before is = is
causal_front config (suc k) (turn ∷ turns) before is = causal_front config k turns (turn ∷ before) is

-- the bytes that were sent are found the same
same_sent : (name sent : List ℕ) (files : Files) → file_of 67108864 name files ≡ Ok sent
    → over (file 67108864 name >>= λ bytes. check_judged bytes sent) files ≡ Ok (does (only_said (codes "same\n")))
same_sent name sent files there = cc (there, (bytes_eq-Decides sent sent).1 refl)

module _ (config : Parts) (turns : List Turn) (k : ℕ) (all : MakeAJournal config turns) where
  is_text : turns_text (take k turns) ≡ journal_text (told (take k turns) [])
  is_text = sym (text_by_turns (take k turns) [] ∙ append-nil _)

  pub folds : folded_in config (turns_text (take k turns)) ≡ Ok (told (take k turns) [])
  folds = folds_as config _ (told (take k turns) []) all.few_events (record {
    fits = beginnings_fit config turns [] k (turns_in_range_fit config turns all.in_range all.calls_rise);
    is_text = is_text;
  }) (causal_front config k turns [] all.causal)

  module _ (names : CheckFiles) (found : Shelved) (holds : HoldTurns names config (take k turns) found) where
    recorded : over (recorded_in names.from) found.files ≡ Ok (record { config = config; told = told (take k turns) [] })
    recorded =
        let journal = file_is 16777216 names.from.journal (turns_text (take k turns)) found.files holds.journal_is holds.short in
        over_then (config_in names.from.config) (told_in names.from.journal) config found.files holds.config_is ∙ cc (journal, folds)

    pub checks : judge (check names) found.files ≡ Ok (does (only_said (codes "same\n")))
    unfolding reading_of
    checks =
        let sent = messages_of config (take k turns) in
        let there = file_is 67108864 names.messages sent found.files holds.messages_are
        (omega (arith, messages_are_short config (told (take k turns) []), rw is_text at holds.short)) in
        over_then (recorded_in names.from) _ _ found.files recorded ∙ same_sent names.messages sent found.files there

-- ---- quiet turns

abbrev ticks_of : List Turn → List ℕ
ticks_of turns = map (λ (turn : Turn). turn.head.tick) turns

all_without : {A : Type 0} (P : A → Type 0) (x : A) (front back : List A) → AllByRecursion P (front ++ x ∷ back) → AllByRecursion P (front ++ back)
all_without P x [] back all = all.1
all_without P x (y ∷ front) back all = (all.0, all_without P x front back all.1)

-- ticks that keep up from one do so with one of them left out
keep_up_without : (least tick : ℕ) (front back : List ℕ) → KeepUpFrom least (front ++ tick ∷ back) → KeepUpFrom least (front ++ back)
keep_up_without least tick [] [] keeps = tt
keep_up_without least tick [] (next ∷ back) keeps = (omega (arith, keeps.0, keeps.1.0), keeps.1.1)
keep_up_without least tick (first ∷ front) back keeps = (keeps.0, keep_up_without first tick front back keeps.1)

-- ticks that keep up from that of the last turn before are, with the newest first, none later than the one before it
end_by : (least : ℕ) (turns before : List Turn) → EndBy tick_of least before → KeepUpFrom least (ticks_of turns)
    → (last : ℕ) × EndBy tick_of last (reverse_aux turns before)
end_by least [] before by keeps = (least, by)
end_by least (turn ∷ turns) before by keeps =
    end_by turn.head.tick turns (turn ∷ before) (omega arith, end_later tick_of least turn.head.tick before keeps.0 by) keeps.1

module _ (config : Parts) (front back : List Turn) (turn : Turn) (intervals : HaveIntervals config)
    (all : MakeAJournal config (front ++ turn ∷ back)) (quiet : IsQuiet config (reverse front) turn) where
  newest_first : reverse (front ++ turn ∷ back) ≡ reverse back ++ turn ∷ reverse front
  newest_first = rw (reverse-append front (turn ∷ back), reverse_onto back turn []) (append_assoc (reverse back) (turn ∷ []) (reverse front))

  by : (last : ℕ) × EndBy tick_of last (reverse back ++ turn ∷ reverse front)
  by = rw newest_first at (end_by 0 (front ++ turn ∷ back) [] tt all.in_range.ticks)

  same_entries : entries_of (front ++ back) ≡ entries_of (front ++ turn ∷ back)
  same_entries = rw (flat_map-append (λ (turn : Turn). turn.entries) front back, flat_map-append (λ (turn : Turn). turn.entries) front (turn ∷ back), quiet.entries) refl

  pub still_a_journal : MakeAJournal config (front ++ back)
  still_a_journal = record {
    few_events = all.few_events;
    in_range = record {
      each = all_without _ turn front back all.in_range.each;
      ticks = rw map-append (keep_up_without 0 turn.head.tick (ticks_of front) (ticks_of back) (rw map-append at all.in_range.ticks));
    };
    causal = rw reverse-append ((quiet_causal config intervals (reverse front) turn quiet (reverse back) by.0 by.1).0 (rw newest_first at all.causal)).1;
    calls_rise = λ caller. rw same_entries (all.calls_rise caller);
  }

  pub tells_the_same : TellTheSame config (reverse (front ++ turn ∷ back)) (reverse (front ++ back))
  tells_the_same = rw (newest_first, reverse-append) (quiet_same config intervals (reverse front) turn quiet (reverse back) by.0 by.1)
