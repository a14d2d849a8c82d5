-- What turns and losses that fit a configuration keep.
use Rattle.text_spec.proofs.Names.{◌≡◌, ◌+◌, ◌<◌, ◌≤◌, ◌||◌, ◌∷◌, ◌++◌, ℕ, true, false, List, [], length, map, get_or, length-set, refl, ap, ◌∙◌, append_assoc, arith, Ok, AllByRecursion, flat_map, list_any, eq-eqb, append-nil, length-append, list_any-append, Parts, Turn, begun, with_entry, entries_of, Past, is_in_ranges, fault_of, next, is_pair, has_pair, pair_of, AreFaultless, journal_grammar, Follows, Entry, Line, begins, enters, loses, turn_told, common_steps}
use Rattle.text_spec.proofs.JournalFacts.{entry_passes, flat_map-push, flat_map-with_entry}

-- what the lines so far keep of one of them
abbrev Keeps : Past → Line → Type 0
Keeps past (begins head) = head.tick ≤ past.tick
Keeps past (enters entry) = (entry.caller < length past.calls) × (entry.call < get_or past.calls entry.caller 0) × (has_pair past.told.turns (pair_of entry.caller entry.call) ≡ true)
Keeps past (loses loss) = (pair_of loss.caller loss.call < past.pair) × (0 < length past.told.losses)

-- the pairs of entries with one more
pub has_pair-more : (turns : List Turn) (entry : Entry (List ℕ)) (pair : ℕ) → 0 < length turns → has_pair (with_entry turns entry) pair ≡ (has_pair turns pair || (is_pair pair entry || false))
has_pair-more turns entry pair some = ap (list_any (is_pair pair)) (flat_map-with_entry (λ (turn : Turn). turn.entries) entry turns entry some (λ turn. refl)) ∙ list_any-append (is_pair pair) (entries_of turns) (entry ∷ [])

-- there are 32 callers
pub calls_stay : (past : Past) (line : Line) → length past.calls ≡ 32 → length (next past line).calls ≡ 32
calls_stay past (enters entry) calls = length-set past.calls entry.caller (entry.call + 1) ∙ calls
calls_stay past line calls = calls

module _ (config : Parts) where
  -- ---- ranges

  pub all_in_ranges : (past : Past) (lines : List Line) → AreFaultless (journal_grammar config) past lines → AllByRecursion (λ line. is_in_ranges config line ≡ true) lines
  all_in_ranges past [] none = tt
  all_in_ranges past (line ∷ lines) none = (grind (arith, none.0), all_in_ranges (next past line) lines none.1)

  -- ---- order

  -- a line that was taken is kept
  kept_now : (past : Past) (line : Line) → length past.calls ≡ 32 → fault_of config past line ≡ Ok tt → Keeps (next past line) line
  kept_now past (begins head) calls none = omega arith
  kept_now past (enters entry) calls none =
      let passes = entry_passes config past entry none in
      let within : entry.caller < length past.calls = omega (arith, calls, passes.caller) in
      grind (arith, common_steps, within, has_pair-more past.told.turns entry (pair_of entry.caller entry.call) passes.some, eq-eqb (pair_of entry.caller entry.call) (pair_of entry.caller entry.call) refl)
  kept_now past (loses loss) calls none = (omega arith, rw length-append (omega arith))

  -- what is kept stays kept, and a line follows it
  kept_on : (past : Past) (first line : Line) → Keeps past first → fault_of config past line ≡ Ok tt → Keeps (next past line) first × Follows first line
  kept_on past (begins one) (begins head) keeps none = grind (arith, keeps, none)
  kept_on past (begins one) line keeps none = (keeps, tt)
  kept_on past (enters one) (begins head) keeps none = grind (arith, keeps, flat_map-push (λ (t : Turn). t.entries) past.told.turns (begun head), append-nil)
  kept_on past (enters one) (enters entry) keeps none =
      let passes = entry_passes config past entry none in
      let rises : one.caller ≡ entry.caller → one.call < entry.call = λ own. omega (arith, rw own at keeps.1, passes.rises) in
      grind (arith, common_steps, keeps, rises, has_pair-more past.told.turns entry (pair_of one.caller one.call) passes.some)
  kept_on past (enters one) (loses loss) keeps none = grind (arith, keeps, none)
  kept_on past (loses one) (loses loss) keeps none = ((grind (arith, keeps.0, none), rw length-append (omega arith)), grind (arith, keeps.0, none))
  kept_on past (loses one) line keeps none = (keeps, grind (arith, keeps.1, none))

  -- each line follows one that is kept
  later_follows : (past : Past) (first : Line) (middle : List Line) (last : Line) (behind : List Line) → Keeps past first → AreFaultless (journal_grammar config) past (middle ++ last ∷ behind) → Follows first last
  later_follows past first [] last behind keeps none = (kept_on past first last keeps none.0).1
  later_follows past first (line ∷ middle) last behind keeps none = later_follows (next past line) first middle last behind (kept_on past first line keeps none.0).0 none.1

  pub in_order : (past : Past) (before : List Line) (first : Line) (middle : List Line) (last : Line) (behind : List Line) → length past.calls ≡ 32
      → AreFaultless (journal_grammar config) past (before ++ first ∷ (middle ++ last ∷ behind)) → Follows first last
  in_order past [] first middle last behind calls none = later_follows (next past first) first middle last behind (kept_now past first calls none.0) none.1
  in_order past (line ∷ before) first middle last behind calls none = in_order (next past line) before first middle last behind (calls_stay past line calls) none.1

  -- ---- number

  -- entries without a fault are few, and the lines after them have none
  few_more : (past : Past) (entries : List (Entry (List ℕ))) (rest : List Line) → past.entries ≤ 1024 → AreFaultless (journal_grammar config) past (map enters entries ++ rest)
      → (past.entries + length entries ≤ 1024) × (later : Past) × AreFaultless (journal_grammar config) later rest
  few_more past [] rest few none = (omega arith, past, none)
  few_more past (entry ∷ entries) rest few none =
      let more = few_more (next past (enters entry)) entries rest (omega (arith, (entry_passes config past entry none.0).few)) none.1 in
      (omega (arith, more.0), more.1, more.2)

  pub turns_few : (past : Past) (turns : List Turn) (rest : List Line) → AreFaultless (journal_grammar config) past (flat_map turn_told turns ++ rest) → AllByRecursion (λ turn. length turn.entries ≤ 1024) turns
  turns_few past [] rest none = tt
  turns_few past (turn ∷ turns) rest none =
      let more = few_more (next past (begins turn.head)) turn.entries (flat_map turn_told turns ++ rest) (omega arith) (rw (append_assoc (map enters turn.entries) (flat_map turn_told turns) rest) at none.1) in
      (omega (arith, more.0), turns_few more.1 turns rest more.2)
