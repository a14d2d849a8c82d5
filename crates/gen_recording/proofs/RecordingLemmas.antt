-- Calls and turns, one after another, and their counts.
use Rattle.gen_recording.proofs.Names.{◌≡◌, ◌≤◌, ◌<◌, ◌+◌, ℕ, zero, suc, List, [], ◌∷◌, ◌++◌, length, map, take, drop, get_or, reverse, refl, sym, ap, ◌∙◌, arith, common_steps, append_assoc, flat_map, length-map, plain_entry, Parts, FitsAct, KeepUpFrom, Asked, Round, reports, changes, sets, round_ticks, Call, Plan, act_of, call_by, calls_from, calls_of, entries_of, entry_of, CanAsk, IsAt, Recorder, begun_round, round_at, filter, set, cond, count_by, nat_lt, ClassSpec, class_of, AreCalls, reverse_onto, drop_more, keep_split, last_from-push, nat_tests}
use Rattle.std.proofs.Math.ListN.{length-set}
use Rattle.std.proofs.lemmas.List.Sums.{sum_by-cons}

-- entries of calls with one call more
pub entries_more : (config : Parts) (before calls : List Call) (call : Call)
    → entries_of config before (calls ++ call ∷ []) ≡ entries_of config before calls ++ entry_of config (reverse calls ++ before) call ∷ []
entries_more config before [] call = refl
entries_more config before (first ∷ calls) call = rw (entries_more config (first ∷ before) calls call, reverse_onto calls first []) (rw append_assoc refl)

-- what may be asked fits a turn
pub ask_fits : (config : Parts) (past : List Call) (caller : ℕ) (asked : Asked) → CanAsk config caller asked
    → FitsAct (λ bytes. bytes) (length config.events) (act_of config past asked)
ask_fits config past caller (reports event count stamp []) can = (can.1, tt)
ask_fits config past caller (reports event count stamp (byte ∷ bytes)) can = (can.1, can.2)
ask_fits config past caller (changes state) can = tt
ask_fits config past caller (sets event mode) can = can.1

-- so many entries wait as there are calls
length-entries_of : (config : Parts) (before calls : List Call) → length (entries_of config before calls) ≡ length calls
length-entries_of config before [] = refl
length-entries_of config before (call ∷ calls) = ap suc (length-entries_of config (call ∷ before) calls)

pub items_are : (config : Parts) (before : List Plan) (calls : List Call) (r : Recorder) → IsAt config before calls r
    → length r.desk.items.items ≡ length calls
items_are config before calls r at =
    sym (length-map r.desk.items.items plain_entry) ∙ ap length at.entries ∙ length-entries_of config (calls_of before) calls

-- the calls of callers, with those of one caller more
pub callers_more : (first k caller : ℕ) (lines : List (List Asked)) → caller ≡ first + k
    → calls_from first (take (suc k) lines) ≡ calls_from first (take k lines) ++ map (call_by caller) (get_or lines k [])
callers_more first zero caller [] is = refl
callers_more first (suc k) caller [] is = refl
callers_more first zero caller (own ∷ lines) is = grind (arith, common_steps)
callers_more first (suc k) caller (own ∷ lines) is = grind (arith, common_steps, callers_more (suc first) k caller lines (omega (arith, is)))

-- the calls of some callers are among those of all
pub callers_few : (first k : ℕ) (lines : List (List Asked))
    → length (calls_from first (take k lines)) + length (get_or lines k []) ≤ length (calls_from first lines)
callers_few first zero [] = omega arith
callers_few first (suc k) [] = omega arith
callers_few first zero (own ∷ lines) = grind (arith, common_steps)
callers_few first (suc k) (own ∷ lines) = grind (arith, common_steps, callers_few (suc first) k lines)

-- the ticks of the next round keep up, and those after it
pub next_keeps : (least : ℕ) (rounds : List Round) (k end : ℕ) → k < length rounds
    → KeepUpFrom least (flat_map round_ticks (drop k rounds) ++ end ∷ [])
    → KeepUpFrom least (round_ticks (round_at rounds k)) × KeepUpFrom (round_at rounds k).after (flat_map round_ticks (drop (k + 1) rounds) ++ end ∷ [])
next_keeps least rounds k end there keeps =
    let round = round_at rounds k in
    let rest = flat_map round_ticks (drop (k + 1) rounds) in
    let both = keep_split least (round_ticks round) (rest ++ end ∷ []) (rw (drop_more rounds k (begun_round 0 [] 0), append_assoc (round_ticks round) rest (end ∷ [])) at keeps) in
    (both.0, rw (last_from-push least round.beside round.after []) at both.1)

-- ---- counts, with one call more

-- a caller's calls, with one more
pub calls_more : (config : Parts) (past : List Call) (numbers : List ℕ) (caller : ℕ) (asked : Asked) → caller < length numbers → AreCalls config past numbers
    → AreCalls config (record { caller = caller; asked = asked } ∷ past) (set numbers caller (get_or numbers caller 0 + 1))
calls_more config past numbers caller asked there are = grind (arith, common_steps, nat_tests, length-set, there, are)

-- the classes that are too small, as pairs and as classes
pub small_classes : (bytes : ℕ) (pairs : List (ℕ × ℕ))
    → length (filter (λ (class : ClassSpec). nat_lt class.size bytes) (map class_of pairs)) ≡ count_by (λ pair. nat_lt pair.0 bytes) pairs
small_classes bytes [] = refl
small_classes bytes (pair ∷ pairs) =
    let more = sum_by-cons (λ (p : ℕ × ℕ). cond (nat_lt p.0 bytes) 1 0) pair pairs in
    grind (arith, common_steps, small_classes bytes pairs, more)
