-- Lines that are in range and in order have no fault, each after the lines before it.
use Rattle.journal.proofs.Names.{◌≡◌, ℕ, ◌+◌, ◌<◌, ◌≤◌, ◌++◌, ◌∷◌, List, [], length, map, take, get_or, refl, append_assoc, length-set, arith, true, Ok, flat_map, Turn, begun, flat_map-push, has_pair, Entry, Loss, Line, enters, loses, turn_told, Told, Past, start, next, fault_of, pair_of, is_in_ranges, Fits, Follows, IsHeld, journal_grammar, begins, lines_told, AreFaultless, told, nat_tests, common_steps, flat_map-append, ◌↔◌, false, append-nil, length-append, take-append-drop, drop, replicate, AllByRecursion, Parts, entries_of}
use Rattle.std.proofs.lemmas.Bool.{eq-eqb}
use Rattle.history_spec.specs.{KeepUpFrom, RiseFrom, calls_of}
use Rattle.ids_types.proofs.HistoryLemmas.{length_with_entry}
use Rattle.text_spec.proofs.JournalFits.{all_in_ranges, calls_stay, has_pair-more, in_order, turns_few}
use Rattle.text_spec.proofs.TraceFacts.{all_append, all_split}
use Rattle.journal.specs.Fitting.{AreInRange, IsInOrder, IsTurnInRange}

-- what the lines so far ask of a line
abbrev Bears : Past → Line → Type 0
Bears past (begins head) = (past.told.losses ≡ []) × (past.tick ≤ head.tick)
Bears past (enters entry) = (past.told.losses ≡ []) × (get_or past.calls entry.caller 0 ≤ entry.call)
Bears past (loses loss) = (past.pair ≤ pair_of loss.caller loss.call) × (has_pair past.told.turns (pair_of loss.caller loss.call) ≡ false)

-- a turn has begun for an entry, and has room for it
abbrev HasRoom : Past → Line → Type 0
HasRoom past (enters entry) = (0 < length past.told.turns) × (past.entries < 1024)
HasRoom past line = Unit {0}

-- each line has room after those before it
abbrev HaveRoom : Past → List Line → Type 0
HaveRoom past [] = Unit {0}
HaveRoom past (line ∷ lines) = HasRoom past line × HaveRoom (next past line) lines

module _ (config : Parts) where
  -- a line that comes leaves the later ones as they are asked
  bears_on : (past : Past) (line later : Line) → length past.calls ≡ 32 → is_in_ranges config line ≡ true → HasRoom past line
      → Bears past line → Bears past later → Follows line later → Bears (next past line) later
  bears_on past (begins head) (begins other) calls range room now bears follows = (bears.0, follows)
  bears_on past (begins head) (loses other) calls range room now bears follows = grind (arith, bears, flat_map-push (λ (t : Turn). t.entries) past.told.turns (begun head), append-nil)
  bears_on past (enters entry) (enters other) calls range room now bears follows = grind (arith, common_steps, range, calls, bears, follows)
  bears_on past (enters entry) (loses other) calls range room now bears follows = grind (arith, nat_tests, bears, follows, has_pair-more past.told.turns entry (pair_of other.caller other.call) room.0)
  bears_on past (loses loss) (loses other) calls range room now bears follows = (omega (arith, follows), bears.1)
  bears_on past (loses loss) later calls range room now bears follows = absurd follows
  bears_on past line later calls range room now bears follows = bears

  -- a line that is in range, as it is asked, and for which there is room has no fault
  no_fault : (past : Past) (line : Line) → is_in_ranges config line ≡ true → HasRoom past line → Bears past line → fault_of config past line ≡ Ok tt
  no_fault past (begins head) range room bears = grind (arith, nat_tests, range, bears)
  no_fault past line range room bears = grind (arith, nat_tests, range, room, bears)

  -- lines that are in range, in order and as the lines so far ask, and that have room
  passes : (past : Past) (lines : List Line) → length past.calls ≡ 32 → AllByRecursion (λ line. is_in_ranges config line ≡ true) lines
      → ((before middle behind : List Line) (first last : Line) → lines ≡ before ++ first ∷ (middle ++ last ∷ behind) → Follows first last)
      → ((before behind : List Line) (last : Line) → lines ≡ before ++ last ∷ behind → Bears past last) → HaveRoom past lines
      → AreFaultless (journal_grammar config) past lines
  passes past [] calls ranges order bears room = tt
  passes past (line ∷ lines) calls ranges order bears room =
      let now = bears [] lines line refl in (
        no_fault past line ranges.0 room.0 now,
        passes (next past line) lines (calls_stay past line calls) ranges.1 (λ before middle behind first last are. order (line ∷ before) middle behind first last (cc are))
            (λ before behind last are. bears_on past line last calls ranges.0 room.0 now (bears (line ∷ before) behind last (cc are)) (order [] before behind line last (cc are))) room.1,
      )

-- ---- room

losses_room : (past : Past) (losses : List Loss) → HaveRoom past (map loses losses)
losses_room past [] = tt
losses_room past (loss ∷ losses) = (tt, losses_room (next past (loses loss)) losses)

entries_room : (past : Past) (entries : List (Entry (List ℕ))) (rest more : List Line) → 0 < length past.told.turns → past.entries + length entries ≤ 1024
    → ((now : Past) → HaveRoom now (rest ++ more)) → HaveRoom past ((map enters entries ++ rest) ++ more)
entries_room past [] rest more some few then = then past
entries_room past (entry ∷ entries) rest more some few then =
    ((some, omega (arith, few)), entries_room (next past (enters entry)) entries rest more (omega (arith, length_with_entry past.told.turns entry, some)) (omega (arith, few)) then)

turns_room : (past : Past) (turns : List Turn) (losses : List Loss) → AllByRecursion (λ turn. length turn.entries ≤ 1024) turns
    → HaveRoom past (flat_map turn_told turns ++ map loses losses)
turns_room past [] losses few = losses_room past losses
turns_room past (turn ∷ turns) losses few =
    (tt, entries_room (next past (begins turn.head)) turn.entries (flat_map turn_told turns) (map loses losses) (omega (arith, length-append past.told.turns (begun turn.head ∷ []))) (omega (arith, few.0)) (λ later. turns_room later turns losses few.1))

-- each caller may begin with any call
none_before : (n caller call : ℕ) → get_or (replicate n call) caller call ≡ call
none_before n caller call = grind (arith, common_steps)

-- at the start nothing is asked
start_bears : (line : Line) → Bears start line
start_bears (begins head) = (refl, omega arith)
start_bears (enters entry) = (refl, rw (none_before 32 entry.caller 0) (omega arith))
start_bears (loses loss) = (omega arith, refl)

pub fits_in_order : (config : Parts) (told : Told) → Fits config told ↔ IsInOrder config told
fits_in_order config told = (
  λ fits. grind (arith, all_in_ranges, in_order, turns_few),
  λ is. record {
    held = is.held;
    faultless = passes config start (lines_told told) refl is.ranges is.order (λ before behind last are. start_bears last) (turns_room start told.turns told.losses is.few);
  },
)

-- ---- turns by themselves

module _ (config : Parts) where
  -- the first of lines without a fault have none
  faultless_front : (past : Past) (front rest : List Line) → AreFaultless (journal_grammar config) past (front ++ rest) → AreFaultless (journal_grammar config) past front
  faultless_front past [] rest none = tt
  faultless_front past (line ∷ front) rest none = (none.0, faultless_front (next past line) front rest none.1)

  pub beginnings_fit : (turns : List Turn) (losses : List Loss) (k : ℕ) → Fits config (told turns losses) → Fits config (told (take k turns) [])
  beginnings_fit turns losses k fits =
      let front = flat_map turn_told (take k turns) in
      let are = rw (take-append-drop k turns) at (flat_map-append turn_told (take k turns) (drop k turns)) in
      record {
        held = rw append-nil (all_split IsHeld front _ (rw (are, append_assoc) at fits.held)).0;
        faultless = rw append-nil (faultless_front start front _ (rw (are, append_assoc) at fits.faultless));
      }

  -- entries are in range, and each caller's calls rise above those so far and go on rising; then come lines without a fault
  entries_pass : (past : Past) (entries later : List (Entry (List ℕ))) (rest : List Line) → length past.calls ≡ 32 → past.told.losses ≡ []
      → 0 < length past.told.turns → past.entries + length entries ≤ 1024 → AllByRecursion (λ line. is_in_ranges config line ≡ true) (map enters entries)
      → ((caller : ℕ) → RiseFrom (get_or past.calls caller 0) (calls_of caller (entries ++ later)))
      → ((now : Past) → length now.calls ≡ 32 → now.told.losses ≡ [] → now.tick ≡ past.tick → ((caller : ℕ) → RiseFrom (get_or now.calls caller 0) (calls_of caller later)) → AreFaultless (journal_grammar config) now rest)
      → AreFaultless (journal_grammar config) past (map enters entries ++ rest)
  entries_pass past [] later rest calls none some few ranges rise then = then past calls none refl rise
  entries_pass past (entry ∷ entries) later rest calls none some few ranges rise then =
      let within : entry.caller < length past.calls = grind (arith, ranges.0, calls) in
      let least = (rw (eq-eqb entry.caller entry.caller refl) at (rise entry.caller)).0 in (
        no_fault config past (enters entry) ranges.0 (some, omega (arith, few)) (none, least),
        entries_pass (next past (enters entry)) entries later rest (calls_stay past (enters entry) calls) none
            (omega (arith, length_with_entry past.told.turns entry, some)) (omega (arith, few)) ranges.1 (λ caller. grind (arith, common_steps, length-set, within, rise caller)) then,
      )

  turns_pass : (past : Past) (turns : List Turn) → length past.calls ≡ 32 → past.told.losses ≡ [] → AllByRecursion (IsTurnInRange config) turns
      → KeepUpFrom past.tick (map (λ turn. turn.head.tick) turns) → ((caller : ℕ) → RiseFrom (get_or past.calls caller 0) (calls_of caller (entries_of turns)))
      → AreFaultless (journal_grammar config) past (flat_map turn_told turns)
  turns_pass past [] calls none each ticks rise = tt
  turns_pass past (turn ∷ turns) calls none each ticks rise = (
    no_fault config past (begins turn.head) each.0.ranges.0 tt (none, ticks.0),
    entries_pass (next past (begins turn.head)) turn.entries (entries_of turns) (flat_map turn_told turns) calls none
        (omega (arith, length-append past.told.turns (begun turn.head ∷ []))) (omega (arith, each.0.few)) each.0.ranges.1 rise
        (λ now its_calls its_none its_tick its_rise. turns_pass now turns its_calls its_none each.1 (rw its_tick ticks.1) its_rise),
  )

  all_held : (turns : List Turn) → AllByRecursion (IsTurnInRange config) turns → AllByRecursion IsHeld (flat_map turn_told turns)
  all_held [] each = tt
  all_held (turn ∷ turns) each = all_append IsHeld (turn_told turn) (flat_map turn_told turns) each.0.held (all_held turns each.1)

  pub turns_in_range_fit : (turns : List Turn) → AreInRange config turns → ((caller : ℕ) → RiseFrom 0 (calls_of caller (entries_of turns))) → Fits config (told turns [])
  turns_in_range_fit turns are rise = record {
    held = rw append-nil (all_held turns are.each);
    faultless = rw append-nil (turns_pass start turns refl refl are.each are.ticks (λ caller. rw (none_before 32 caller 0) (rise caller)));
  }
