-- A journal's lines against what the turns bring: each report's line is at least as long as its item weighs, and
-- the line that begins a turn a quarter at least of what the turn's internal events weigh.
use mathlib.Core.List.{reverse_aux}
use Rattle.std.proofs.lemmas.List.{map-append}
use Rattle.std.proofs.lemmas.List.Sums.{sum_by-append, sum_by-cons}
use Rattle.std.specs.Fmt.{digits}
use Rattle.law_agreement.proofs.Names.{◌≡◌, ℕ, zero, suc, ◌+◌, ◌*◌, ◌/◌, ◌%◌, ◌≤◌, Bool, false, List, [], ◌∷◌, length, map, sum_by, with_all, Moment, flat_map, reverse, Option, arith, length-append, digits_onto, digit_glyph, Kept, Entry, Parts, Told, Line, begins, enters, line_for, turn_told, journal_text, messages, kept_parcel, closes, head_moment, act_moment, turn_moments, moments, context_weight, moment_weight}
use Rattle.ids_types.specs.declared.internal.Internal.{Internal}
use Rattle.ids_types.specs.declared.entry.Act.{Act}
use Rattle.ids_types.specs.declared.entry.Carried.{Carried}
use Rattle.ids_types.specs.declared.entry.TurnHead.{TurnHead}
use Rattle.ids_types.specs.declared.names.EventIndex.{EventIndex}
use Rattle.text_spec.specs.Below.{Turn, decimal, to_be_bytes, w64}
use Rattle.text_spec.specs.{context_word, entry_of, text_of}
use Rattle.text_spec.proofs.HexadecimalLemmas.{length_hex}
use Rattle.chain_spec.specs.Heads.{head_for, heads_of}
use Rattle.law_agreement.proofs.ChainLemmas.{sent_weighs}

-- ---- words

-- a digit at least goes before what is there
digits_grow : (k base : ℕ) (upper : Bool) (n : ℕ) (behind : List ℕ) → suc (length behind) ≤ length (digits_onto (suc k) base upper n behind)
digits_grow zero base upper n behind = grind (arith)
digits_grow (suc k) base upper n behind = grind (arith, digits_grow k base upper (n / base) (digit_glyph upper (n % base) ∷ behind))

-- a number has a digit
number_is_long : (n : ℕ) → 1 ≤ length (decimal n)
unfolding digits
number_is_long n = digits_grow 63 10 false n []

-- the word of a context has two digits for each byte
context_is_long : (context : Carried (List ℕ)) → context_weight (kept_parcel context) ≤ length (context_word context)
context_is_long (Kept class claim bytes) = simp length-append (omega (arith, length_hex bytes, number_is_long))
context_is_long other = omega arith

-- ---- lines

-- the characters of a line with its line feed
abbrev size : Line → ℕ
size line = 1 + length (line_for line)

-- the line of an entry is as long as what comes by it weighs
act_is_long : (tick caller call : ℕ) (act : Act (List ℕ))
    → moment_weight (act_moment tick act) ≤ size (enters (entry_of caller call act))
act_is_long tick caller call act = grind (arith, length-append, number_is_long, λ (n : ℕ). length_hex (to_be_bytes w64 n), context_is_long)

-- ---- turns

module _ (tick : ℕ) where
  closings_weigh : (events : List ℕ) → sum_by moment_weight (map (closes tick) events) ≡ 0
  closings_weigh [] = omega arith
  closings_weigh (event ∷ events) = omega (arith, closings_weigh events, sum_by-cons moment_weight (closes tick event) (map (closes tick) events))

  head_weighs : (event : Option EventIndex) (number : ℕ) → sum_by moment_weight (map (head_moment tick) (head_for event number)) ≤ 8
  head_weighs event number = grind (arith)

  -- a turn has at most three internal events
  heads_weigh : (internal : Internal) (head : TurnHead) → sum_by moment_weight (map (head_moment tick) (heads_of internal head)) ≤ 24
  heads_weigh internal head = simp (map-append, sum_by-append moment_weight) (omega (arith, head_weighs))

  entries_weigh : (entries : List (Entry (List ℕ)))
      → sum_by moment_weight (map (λ entry. act_moment tick entry.act) entries) ≤ sum_by size (map enters entries)
  entries_weigh [] = omega arith
  entries_weigh (entry ∷ entries) =
      let long = act_is_long tick entry.caller entry.call entry.act in
      let own = sum_by-cons moment_weight (act_moment tick entry.act) (map (λ entry. act_moment tick entry.act) entries) in
      omega (arith, long, own, sum_by-cons size (enters entry) (map enters entries), entries_weigh entries)

-- moments that came one after another
weigh-with_all : (before own : List Moment) → sum_by moment_weight (with_all before own) ≡ sum_by moment_weight before + sum_by moment_weight own
weigh-with_all before [] = omega arith
weigh-with_all before (moment ∷ own) =
    omega (arith, weigh-with_all (moment ∷ before) own, sum_by-cons moment_weight moment own, sum_by-cons moment_weight moment before)

module _ (config : Parts) where
  turn_weighs : (turn : Turn) → sum_by moment_weight (turn_moments config turn) ≤ 4 * sum_by size (turn_told turn)
  turn_weighs turn =
      let head : 10 ≤ size (begins turn.head) = simp length-append (omega (arith, number_is_long)) in
      let lines = sum_by-cons size (begins turn.head) (map enters turn.entries) in
      simp (sum_by-append moment_weight)
      (omega (arith, closings_weigh turn.head.tick, heads_weigh turn.head.tick, entries_weigh turn.head.tick turn.entries, head, lines))

  -- turns, with the oldest first, after those before them
  turns_weigh : (turns before : List Turn)
      → sum_by moment_weight (moments config (reverse_aux turns before))
      ≤ sum_by moment_weight (moments config before) + 4 * sum_by size (flat_map turn_told turns)
  turns_weigh [] before = omega arith
  turns_weigh (turn ∷ turns) before =
      let lines = sum_by-append size (turn_told turn) (flat_map turn_told turns) in
      omega (arith, turns_weigh turns (turn ∷ before), weigh-with_all (moments config before) (turn_moments config turn), lines, turn_weighs turn)

-- ---- texts

text_size : (lines : List Line) → length (text_of (map line_for lines)) ≡ sum_by size lines
text_size [] = omega arith
text_size (line ∷ lines) = grind (arith, length-append, text_size lines, sum_by-cons size line lines)

pub messages_are_short : (config : Parts) (told : Told) → length (messages config (reverse told.turns)) ≤ 4 * length (journal_text told)
messages_are_short config told =
    grind (arith, sent_weighs config, turns_weigh config told.turns [], sum_by-append size, text_size)
