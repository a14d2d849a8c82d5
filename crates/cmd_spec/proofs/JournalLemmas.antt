-- What a journal that is folded says of its turns.
use Rattle.cmd_spec.proofs.Names.{Act, AllByRecursion, Cuts, Entry, IsJournal, Line, List, Parts, Report, Turn, [], ap, append_assoc, arith, begins, cuts_go_on, ends_of, enters, entries_of, flat_map, length, length-append, length-map, line_for, lines_told, loses, map, messages_of, refl, reverse, reverse_onto, told, true, turn_told, ℕ, ◌++◌, ◌+◌, ◌∷◌, ◌≡◌, ◌≤◌, subst, sym, Fits, start, text_of, Past, is_act, has_event, journal_grammar, AreFaultless, next}
use Rattle.filter_chain.specs.Turning.{FitsAct}
use Rattle.chain_plain.specs.Recorded.{CanFold, CanTake, RiseFrom}
use Rattle.chain_spec.proofs.GrowthLemmas.{messages_grow}
use Rattle.chain_spec.specs.{messages, ends}
use Rattle.std.proofs.lemmas.List.Elements.{All-from_recursion}
use Rattle.text_spec.proofs.JournalFits.{turns_few}
use Rattle.text_spec.proofs.JournalFacts.{entry_passes}
use Rattle.ids_types.specs.declared.loss.Loss.{Loss}

-- ---- what can be folded

module _ (config : Parts) where
  act_fits : (act : Act (List ℕ)) → is_act act ≡ true → has_event config act ≡ true → FitsAct (λ bytes. bytes) (length config.events) act
  act_fits (Report event count stamp context) is there = grind (arith, is, there)
  act_fits other is there = grind (arith, there)

  -- entries without a fault can be taken, and leave the tick as it is
  entries_fit : (past : Past) (entries : List (Entry (List ℕ))) (rest : List Line)
      → AreFaultless (journal_grammar config) past (map enters entries ++ rest)
      → AllByRecursion (λ entry. FitsAct (λ bytes. bytes) (length config.events) entry.act) entries
      × (later : Past) × (later.tick ≡ past.tick) × AreFaultless (journal_grammar config) later rest
  entries_fit past [] rest none = (tt, past, refl, none)
  entries_fit past (entry ∷ entries) rest none =
      let passes = entry_passes config past entry none.0 in
      let more = entries_fit (next past (enters entry)) entries rest none.1 in
      ((act_fits entry.act passes.act passes.event, more.0), more.1, more.2, more.3)

  turns_fit : (past : Past) (turns : List Turn) (rest : List Line)
      → AreFaultless (journal_grammar config) past (flat_map turn_told turns ++ rest)
      → AllByRecursion (λ turn. length turn.entries ≤ 1024) turns
      → AllByRecursion (CanTake (length config.events)) turns × RiseFrom past.tick turns
  turns_fit past [] rest none few = (tt, tt)
  turns_fit past (turn ∷ turns) rest none few =
      let own = entries_fit (next past (begins turn.head)) turn.entries (flat_map turn_told turns ++ rest)
      (rw (append_assoc (map enters turn.entries) (flat_map turn_told turns) rest) at none.1) in
      let more = turns_fit own.1 turns rest own.3 few.1 in
      ((record { few = few.0; acts = All-from_recursion _ turn.entries own.0 }, more.0), (grind (arith, none.0), rw own.2 at more.1))

-- the chain can take the turns of a journal that fits
pub can_fold : (config : Parts) (turns : List Turn) (losses : List Loss) → Fits config (told turns losses)
    → CanFold (length config.events) turns
can_fold config turns losses fits =
    let lost = map loses losses in
    let fit = turns_fit config start turns lost fits.faultless (turns_few config start turns lost fits.faultless) in
    record { turns_fit = fit.0; ticks = fit.1 }

-- ---- what is given for them

-- the messages end where the ends of turns, the newest first, cut them
ends_cut : (config : Parts) (before : List Turn)
    → Cuts 0 (reverse (ends config before)) (length (messages config before))
ends_cut config [] = omega arith
ends_cut config (turn ∷ before) =
    let grows = messages_grow config turn before in
    let last = length (messages config (turn ∷ before)) in
    subst (λ (cuts : List ℕ). Cuts 0 cuts last) (sym (reverse_onto (ends config before) last []))
    (cuts_go_on 0 _ _ last (ends_cut config before) (omega (arith, ap length grows.whole, length-append (messages config before) grows.further)))

-- the bytes that turns send are cut at the ends of turns
pub cut_at_ends : (config : Parts) (turns : List Turn)
    → Cuts 0 (ends_of config turns) (length (messages_of config turns))
cut_at_ends config turns = ends_cut config (reverse turns)

-- ---- how many lines there are

text_has_lines : (lines : List (List ℕ)) → length lines ≤ length (text_of lines)
text_has_lines [] = omega arith
text_has_lines (line ∷ lines) = simp length-append (omega (arith, text_has_lines lines))

turns_have_lines : (turns : List Turn) → length (flat_map turn_told turns) ≡ length turns + length (entries_of turns)
turns_have_lines [] = refl
turns_have_lines (turn ∷ turns) = simp (length-append, length-map) (omega (arith, turns_have_lines turns))

-- a journal has a byte for each turn and each entry
pub lines_are_few : (config : Parts) (text : List ℕ) (turns : List Turn) (losses : List Loss)
    → IsJournal config text (told turns losses) → length turns + length (entries_of turns) ≤ length text
lines_are_few config text turns losses is =
    let lines = text_has_lines (map line_for (lines_told (told turns losses))) in
    rw is.is_text (omega (arith, simp (length-map, length-append) at lines, turns_have_lines turns))
