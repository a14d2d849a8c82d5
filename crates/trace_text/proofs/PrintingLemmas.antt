-- The text of a trace, one line after another.
use Rattle.trace_text.proofs.Names.{◌≡◌, ◌≤◌, Traced, AreTicks, trace_in, trace_again, Ok, ℕ, suc, ◌+◌, List, [], ◌∷◌, ◌++◌, length, map, refl, sym, ap, ◌∙◌, append_assoc, arith, decimal, append-nil, map-append, take_all, AllByRecursion, Parts, IsAllowedRound, MayAsk, ended_line, words_of_fields, Asked, Round, asked_fields, calls, callers_told, closes, number_fields, opens, round_told, rounds_told, trace_fields, trace_line_for, line_of, space, flat_map-push, text_of-map, caller_text, lines_text, ticks_text, common_steps, trace_text}

-- ---- the line that opens a round

pub ticks_text-push : (ticks : List ℕ) (tick : ℕ) → ticks_text (ticks ++ tick ∷ []) ≡ ticks_text ticks ++ (space ∷ decimal tick)
ticks_text-push [] tick = append-nil (space ∷ decimal tick)
ticks_text-push (one ∷ ticks) tick = rw (ticks_text-push ticks tick, append_assoc) refl

-- the words after a letter
pub opening_text : (letter : List ℕ) (ticks : List ℕ) → line_of (letter ∷ words_of_fields (number_fields ticks)) ≡ letter ++ ticks_text ticks
opening_text letter [] = sym (append-nil letter)
opening_text letter (tick ∷ ticks) = ap (λ bs. letter ++ space ∷ bs) (opening_text (decimal tick) ticks)

-- ---- lines of callers

pub caller_text-push : (caller : ℕ) (lines : List Asked) (asked : Asked) → caller_text caller (lines ++ asked ∷ []) ≡ caller_text caller lines ++ ended_line (asked_fields caller asked)
caller_text-push caller lines asked = ap lines_text (map-append (calls caller) lines (asked ∷ [])) ∙ text_of-map trace_line_for (map (calls caller) lines) (calls caller asked ∷ [])

callers_told-push : (caller last : ℕ) (front : List (List Asked)) (lines : List Asked) → last ≡ caller + length front → callers_told caller (front ++ lines ∷ []) ≡ callers_told caller front ++ map (calls last) lines
callers_told-push caller last [] lines is = let here : last ≡ caller = omega arith in rw (here, append-nil (map (calls caller) lines)) refl
callers_told-push caller last (one ∷ front) lines is = rw (callers_told-push (suc caller) last front lines (omega arith), append_assoc) refl

pub callers_text-push : (front : List (List Asked)) (lines : List Asked) → lines_text (callers_told 0 (front ++ lines ∷ [])) ≡ lines_text (callers_told 0 front) ++ caller_text (length front) lines
callers_text-push front lines = ap lines_text (callers_told-push 0 (length front) front lines (omega arith)) ∙ text_of-map trace_line_for (callers_told 0 front) (map (calls (length front)) lines)

-- a whole round
pub round_text : (round : Round) → lines_text (round_told round) ≡ ended_line (trace_fields (opens round.beside)) ++ (lines_text (callers_told 0 round.lines) ++ ended_line (trace_fields (closes round.after)))
round_text round =
    let middle = callers_told 0 round.lines in
    let parts = text_of-map trace_line_for (opens round.beside ∷ []) (middle ++ closes round.after ∷ []) in
    grind (arith, append_assoc, parts, text_of-map trace_line_for middle (closes round.after ∷ []))

pub rounds_text-push : (front : List Round) (round : Round) → lines_text (rounds_told (front ++ round ∷ [])) ≡ lines_text (rounds_told front) ++ lines_text (round_told round)
rounds_text-push front round = ap lines_text (flat_map-push round_told front round) ∙ text_of-map trace_line_for (rounds_told front) (round_told round)

-- how lines are printed, one after another
pub ruleset pushes = (common_steps, append_assoc, ticks_text-push, opening_text, caller_text-push, rounds_text-push)

pub ruleset round_pushes = (common_steps, append_assoc, callers_text-push, round_text, take_all)

-- ---- the text is read again

pub all_allowed : (config : Parts) (callers : ℕ) (rounds : List Round) → config.callers ≡ callers → AllByRecursion (λ (round : Round). length round.lines ≡ callers) rounds
    → AllByRecursion (λ (round : Round). AllByRecursion (AllByRecursion (MayAsk config)) round.lines) rounds → AllByRecursion (IsAllowedRound config) rounds
all_allowed config callers [] same wide may = tt
all_allowed config callers (round ∷ rounds) same wide may = (record { callers = wide.0 ∙ sym same; asked = may.0 }, all_allowed config callers rounds same wide.1 may.1)

pub text_again : (config : Parts) (trace : Traced) → config.callers ≤ 32 → length config.events ≤ 256 → config.callers ≡ trace.callers → AllByRecursion (λ (round : Round). length round.lines ≡ trace.callers) trace.rounds
    → AreTicks trace.rounds → AllByRecursion (λ (round : Round). AllByRecursion (AllByRecursion (MayAsk config)) round.lines) trace.rounds → trace_in config (trace_text trace.rounds) ≡ Ok trace.rounds
text_again config trace callers few same wide ticks may = trace_again config trace.rounds callers few (record { allowed = all_allowed config trace.callers trace.rounds same wide may; ticks = ticks })
