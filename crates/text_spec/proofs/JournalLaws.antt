-- All lines of a journal: what a text tells is a journal, and each journal is told by its own text.
use Rattle.text_spec.proofs.Names.{◌≡◌, ◌≤◌, ◌∷◌, ◌++◌, ℕ, List, [], length, map, refl, sym, ap, ◌∙◌, append_assoc, Ok, Err, flat_map, append-nil, Parts, Turn, Past, next, start, AreFaultless, IsJournal, journal_grammar, BadLine, journal_in, Entry, Loss, Told, Line, begins, enters, loses, fields_of, turn_told, lines_told, IsHeld, line_for, line_forms, subst, text_of, AllByRecursion, Some, None, words_of_fields, AreHeld, AreExact, HasForm, told_in, entry_of, turn_form, report_form, state_form, setting_form, loss_form, told_by, Act, Report, State, SetMode, act_fields}
use Rattle.text_spec.proofs.JournalFacts.{line_exact, line_grows}
use Rattle.text_spec.proofs.FieldsLaws.{forms_line, AreForms, IsShown, IsTold, first_form, forms_are}
use Rattle.text_spec.proofs.LinesLaws.{Tells, all_next, is_their_text, text_adds, text_read}
use Rattle.text_spec.proofs.ContextsLaws.{lawfuls, number_lawful}

-- ---- the forms of a journal

pub are_forms : AreForms fields_of line_forms
are_forms = search lawfuls depth 40

-- words tell something exactly where they have a form, and are then the line's
pub told_is : (words : List (List ℕ)) (line : Line) → told_by words ≡ Some line → HasForm line_forms words × IsShown words (fields_of line)
told_is words line read = subst (IsTold fields_of line_forms words) read (forms_are fields_of line_forms words are_forms)

pub none_has_none : (words : List (List ℕ)) → told_by words ≡ None → HasForm line_forms words → ⊥
none_has_none words none = subst (IsTold fields_of line_forms words) none (forms_are fields_of line_forms words are_forms)

-- ---- from a line's words to the line

act_again : (caller call : ℕ) (act : Act (List ℕ)) → AreHeld (act_fields caller call act) → AreExact (act_fields caller call act)
    → told_by (words_of_fields (act_fields caller call act)) ≡ Some (enters (entry_of caller call act))
act_again caller call (Report event count stamp context) held exact =
    first_form report_form (caller, (call, (event.0, (count, (stamp, (context, tt)))))) _ are_forms.1.0.laws held.1 exact.1
act_again caller call (State state) held exact = first_form state_form (caller, (call, (tt, (state, tt)))) _ are_forms.1.1.0.laws held.1 exact.1
act_again caller call (SetMode event mode) held exact =
    let no_state : told_in state_form (words_of_fields (act_fields caller call (SetMode event mode))) ≡ None =
    rw (number_lawful.again caller tt exact.1.0, number_lawful.again call tt exact.1.1.0) refl in
    rw no_state (first_form setting_form (caller, (call, (tt, (event.0, (mode, tt))))) _ are_forms.1.1.1.0.laws held.1 exact.1)

-- a line is read from its words
pub line_again : (line : Line) → AreHeld (fields_of line) → AreExact (fields_of line) → told_by (words_of_fields (fields_of line)) ≡ Some line
line_again (begins head) held exact =
    first_form turn_form (head.tick, (head.lost_events, (head.lost_contexts, (head.limited, tt)))) _ are_forms.0.laws held.1 exact.1
line_again (enters entry) held exact = act_again entry.caller entry.call entry.act held exact
line_again (loses loss) held exact = first_form loss_form (loss.caller, (loss.call, (loss.given, tt))) _ are_forms.1.1.1.1.0.laws held.1 exact.1

-- ---- what lines tell

-- the entries that lines begin with, and what the lines after them tell
abbrev grouped : List Line → List (Entry (List ℕ)) × Told
grouped [] = ([], record { turns = []; losses = [] })
grouped (begins head ∷ lines) = let rest = grouped lines in ([], record rest.1 { turns = record { head = head; entries = rest.0 } ∷ rest.1.turns })
grouped (enters entry ∷ lines) = let rest = grouped lines in (entry ∷ rest.0, rest.1)
grouped (loses loss ∷ lines) = let rest = grouped lines in (rest.0, record rest.1 { losses = loss ∷ rest.1.losses })

-- losses alone, entries before other lines, and the lines of a whole journal
grouped-losses : (losses : List Loss) → grouped (map loses losses) ≡ ([], record { turns = []; losses = losses })
grouped-losses [] = refl
grouped-losses (loss ∷ losses) = rw (grouped-losses losses) refl

grouped-entries : (entries : List (Entry (List ℕ))) (lines : List Line) → grouped (map enters entries ++ lines) ≡ (entries ++ (grouped lines).0, (grouped lines).1)
grouped-entries [] lines = refl
grouped-entries (entry ∷ entries) lines = rw (grouped-entries entries lines) refl

grouped-turns : (turns : List Turn) (losses : List Loss) → grouped (flat_map turn_told turns ++ map loses losses) ≡ ([], record { turns = turns; losses = losses })
grouped-turns [] losses = grouped-losses losses
grouped-turns (turn ∷ turns) losses =
    rw (append_assoc (map enters turn.entries) (flat_map turn_told turns) (map loses losses), grouped-entries turn.entries, grouped-turns turns losses, append-nil) refl

-- they are told by one history with its losses alone
same_told : (a b : Told) → lines_told a ≡ lines_told b → a ≡ b
same_told a b same = ap (λ (g : List (Entry (List ℕ)) × Told). g.1) (sym (grouped-turns a.turns a.losses) ∙ ap grouped same ∙ grouped-turns b.turns b.losses)

module _ (config : Parts) (few : length config.events ≤ 256) where
  -- a line without a fault is read from its own words alone
  tells : Tells (journal_grammar config) fields_of
  tells = record {
    exact = λ past line none. line_exact config past line few none;
    again = line_again;
    takes = λ words line read. let told = told_is words line read in (told.1, forms_line fields_of line_forms words are_forms told.0);
  }

  -- what lines without a fault tell after others
  lines_told_behind : (past : Past) (lines : List Line) → AreFaultless (journal_grammar config) past lines → lines_told (all_next (journal_grammar config) past lines).told ≡ lines_told past.told ++ lines
  lines_told_behind past [] none = sym (append-nil (lines_told past.told))
  lines_told_behind past (line ∷ lines) none =
      rw (lines_told_behind (next past line) lines none.1, line_grows config past line none.0) (append_assoc (lines_told past.told) (line ∷ []) lines)

  -- what a text tells is a journal, and the text is its own
  pub told_is_journal : (text : List ℕ) (told : Told) → journal_in config text ≡ Ok told → IsJournal config text told
  told_is_journal text told read =
      let step = text_read (journal_grammar config) fields_of (λ words line read. (told_is words line read).1) (λ past. past.told) start text told read in
      let all = step.1 in
      let are : all.lines ≡ lines_told told = sym (lines_told_behind start all.lines all.none) ∙ ap (λ (p : Past). lines_told p.told) all.leave ∙ ap lines_told step.2 in
      record {
        fits = record { held = subst (AllByRecursion IsHeld) are all.held; faultless = subst (AreFaultless (journal_grammar config) start) are all.none };
        is_text = is_their_text (journal_grammar config) fields_of tells start step.0 text all ∙ ap (λ (ls : List Line). text_of (map line_for ls)) are;
      }

  -- a journal's own text tells it
  pub journal_is_told : (text : List ℕ) (told : Told) → IsJournal config text told → journal_in config text ≡ Ok told
  journal_is_told text told journal =
      let lines = lines_told told in
      let all = text_adds (journal_grammar config) fields_of tells start lines journal.fits.faultless journal.fits.held in
      rw (journal.is_text, all.1) (ap Ok (same_told (all_next (journal_grammar config) start lines).told told (lines_told_behind start lines journal.fits.faultless)))

  -- a text is the journal of one history and its losses at most
  pub one_reading : (text : List ℕ) (a b : Told) → IsJournal config text a → IsJournal config text b → a ≡ b
  one_reading text a b is_a is_b = cc (journal_is_told text a is_a, journal_is_told text b is_b)

  -- a text with a bad line is no journal
  pub bad_is_none : (text : List ℕ) (bad : BadLine) → journal_in config text ≡ Err bad → (told : Told) → IsJournal config text told → ⊥
  bad_is_none text bad read told journal = cc (journal_is_told text told journal, read)

-- a text has one journal at most, which is read of it
pub ruleset journal_laws = (one_reading, journal_is_told, told_is_journal, bad_is_none)
