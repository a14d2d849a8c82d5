-- How many bytes a line has at most.
use Rattle.journal.proofs.Names.{◌≡◌, ℕ, ◌+◌, ◌-◌, ◌<◌, ◌≤◌, ◌^◌, List, [], ◌∷◌, length, map, arith, true, decimal, join_with_byte, point, ended_line, Line, enters, loses, fields_of, Entry, refl, ap, ◌∙◌, act_fields, begins, context_word, has_event, is_act, is_call, is_claim, is_context, is_in_ranges, stamp_text, nat_tests, common_steps, length-append, take_more, ◌*◌, get_or, sum_by, take, Option, Some, None, list_all, Parts, sum_by-cons, sum_by_push, sensor_is_there, Carried, Absent, Kept, Missing, Act, Report, State, SetMode, most_bytes, most_for, most_of, most_with}
use Rattle.std.proofs.lemmas.Fmt.{length-decimal-le_wide}
use Rattle.ids_types.specs.declared.entry.TurnHead.{TurnHead}
use Rattle.text_spec.proofs.HexadecimalLemmas.{length_hex}
use Rattle.text_spec.specs.Below.{Stamp, mode_name, to_be_bytes, w64}

-- how many digits a number has at most
short : (n : ℕ) → (n < 10 → length (decimal n) ≤ 1) × (n < 10 ^ 2 → length (decimal n) ≤ 2) × (n < 10 ^ 3 → length (decimal n) ≤ 3)
    × (n < 10 ^ 5 → length (decimal n) ≤ 5) × (n < 10 ^ 13 → length (decimal n) ≤ 13) × (n < 10 ^ 14 → length (decimal n) ≤ 14) × (n < 10 ^ 19 → length (decimal n) ≤ 19)
short n =
    let most = λ (k : ℕ) (some : 0 < k) (wide : 10 ^ k ≤ 10 ^ 64) (less : n < 10 ^ k). length-decimal-le_wide k n some less (omega arith) in
    (most 1 (omega arith) (omega arith), most 2 (omega arith) (omega arith), most 3 (omega arith) (omega arith), most 5 (omega arith) (omega arith), most 13 (omega arith) (omega arith), most 14 (omega arith) (omega arith), most 19 (omega arith) (omega arith))

-- ---- words

claims_short : (numbers : List ℕ) → list_all is_claim numbers ≡ true → length (join_with_byte point (map decimal numbers)) ≤ 15 * length numbers - 1
claims_short [] are = omega arith
claims_short (n ∷ []) are = grind (arith, nat_tests, short n, are)
claims_short (n ∷ m ∷ numbers) are = grind (arith, nat_tests, length-append, short n, claims_short (m ∷ numbers), are)

stamp_short : (stamp : Option Stamp) → length (stamp_text stamp) ≤ 16
stamp_short None = omega arith
stamp_short (Some stamp) = omega (arith, length_hex (to_be_bytes w64 stamp.0))

context_short : (context : Carried (List ℕ)) → is_context context ≡ true → 47 + length (context_word context) ≤ most_with context
context_short Absent is = omega arith
context_short (Kept class claim bytes) is = simp length-append (grind (arith, nat_tests, short class, short claim, length_hex bytes, is))
context_short (Missing numbers) is = omega (arith, claims_short numbers is)

-- ---- lines

call_short : (caller call : ℕ) → is_call caller call ≡ true → length (decimal caller) + length (decimal call) ≤ 15
call_short caller call is = grind (arith, nat_tests, short caller, short call, is)

act_short : (config : Parts) (caller call : ℕ) (act : Act (List ℕ)) → length config.events ≤ 256 → is_call caller call ≡ true → is_act act ≡ true
    → has_event config act ≡ true → length (ended_line (act_fields caller call act)) ≤ most_of act
act_short config caller call (Report event count stamp context) few place is has =
    simp length-append (grind (arith, nat_tests, call_short caller call place, short event.0, sensor_is_there config event.0 has, short count, stamp_short stamp, context_short context, few, is))
act_short config caller call (State state) few place is has = simp length-append (grind (arith, nat_tests, call_short caller call place, short state, is))
act_short config caller call (SetMode event mode) few place is has =
    let mode : length (mode_name mode) ≤ 26 = grind arith in simp length-append (grind (arith, nat_tests, call_short caller call place, short event.0, mode, few, has))

pub line_is_short : (config : Parts) (line : Line) → length config.events ≤ 256 → is_in_ranges config line ≡ true → length (ended_line (fields_of line)) ≤ most_bytes line
line_is_short config (begins head) few is =
    simp length-append (grind (arith, nat_tests, short head.tick, short head.lost_events, short head.lost_contexts, short head.limited, is))
line_is_short config (enters entry) few is = act_short config entry.caller entry.call entry.act few (grind (arith, is)) (grind (arith, is)) (grind (arith, is))
line_is_short config (loses loss) few is = simp length-append (grind (arith, nat_tests, short loss.caller, short loss.call, short loss.given, is))

-- ---- turns

module _ {B : Type 0} (held : B → Entry (List ℕ)) where
  -- how many bytes the lines of entries have at most
  abbrev pub most_in : List B → ℕ
  most_in entries = sum_by (λ entry. most_of (held entry).act) entries

  pub most_is : (entries : List B) → sum_by most_bytes (map enters (map held entries)) ≡ most_in entries
  most_is [] = refl
  most_is (entry ∷ entries) = let rest = most_is entries in grind (arith, common_steps, rest)

  pub most_more : (entries : List B) (i : ℕ) (entry d : B) → i < length entries → entry ≡ get_or entries i d
      → most_in (take (i + 1) entries) ≡ most_in (take i entries) + most_of (held entry).act
  most_more entries i entry d within is = rw (take_more entries i d within, ← is) (sum_by_push (λ entry. most_of (held entry).act) (take i entries) entry)

  pub most_all : (head : TurnHead) (entries : List B) → most_for (record { head = head; entries = map held entries }) ≡ 67 + most_in entries
  most_all head entries = sum_by-cons most_bytes (begins head) (map enters (map held entries)) ∙ ap (λ n. 67 + n) (most_is entries)
