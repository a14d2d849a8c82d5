-- Numbers that wrap at 64 bits, the draws that they give, and rounds with more lines.
use Rattle.gen_recording.proofs.Names.{◌≡◌, ap, map, ◌≤◌, ℕ, ◌+◌, ◌*◌, ◌%◌, ◌^◌, length, refl, add-one, arith, range_with_len, slice_range, length-range_with_len, next_number, context_of, ◌<◌, ◌-◌, zero, suc, List, [], ◌∷◌, ◌++◌, set, get_or, append_assoc, append-nil, replicate, set-get_or, length-map-range_with_len, map-range_with_len_more, common_steps, Asked, Round, with_last, Traced, asking, with_lines, elements, get_or_at, length_push, map-id, set_at, fill_by_all, get_or-range_with_len, by_last, last_tick-push, with_last-push}
use Rattle.gen_recording.specs.{ramp, number_after}

-- wrapping after the product and after the sum is wrapping once
pub number_wraps : (x : ℕ) → (x * 6364136223846793005 % 2 ^ 64 + 1442695040888963407) % 2 ^ 64
    ≡ (x * 6364136223846793005 + 1442695040888963407) % 2 ^ 64
number_wraps x = omega arith

-- the next draw
pub next_drawn : (start n number : ℕ) → number ≡ number_after start n → next_number number ≡ number_after start (n + 1)
unfolding number_after
next_drawn start n number is = rw (is, add-one) refl

-- before the first draw
pub first_number : (start n : ℕ) → n ≡ 0 → start ≡ number_after start n
unfolding number_after
first_number start n is = rw is refl

-- ---- context data

-- there are 256 bytes
pub length-ramp : length ramp ≡ 256
unfolding ramp
length-ramp = length-range_with_len 0 256

pub ramp_is : (n : ℕ) → n ≡ 256 → map (λ i. i) (range_with_len 0 n) ≡ ramp
unfolding ramp
ramp_is n all = rw map-id (ap (range_with_len 0) all)

cut : (n event size : ℕ) → event + size ≤ n → n ≤ 256 → slice_range (range_with_len 0 n) event (event + size) ≡ context_of event size
cut n event size few all =
    fill_by_all (λ i. (event + i) % 256) _ size 0 (grind (arith, elements, length-range_with_len))
    (λ k below. grind (arith, elements, get_or-range_with_len, length-range_with_len))

-- context data are cut from the bytes that count up
pub cut_ramp : (event size : ℕ) → event + size ≤ 256 → slice_range ramp event (event + size) ≡ context_of event size
unfolding ramp
cut_ramp event size few = cut 256 event size few (omega arith)

-- ---- the last round

-- as many rounds as before
pub length-with_last : (change : Round → Round) (rounds : List Round) → 0 < length rounds → length (with_last change rounds) ≡ length rounds
length-with_last change rounds some =
    by_last (λ rs. length (with_last change rs) ≡ length rs) (λ front last. simp (with_last-push, length_push)) rounds some

-- no lines
pub lines_none : (caller : ℕ) (trace : Traced) → 0 < length trace.rounds → with_lines caller [] trace ≡ trace
lines_none caller trace some =
    ap (λ rs. record trace { rounds = rs })
    (by_last (λ rs. with_last (asking caller []) rs ≡ rs) (λ front last. simp (with_last-push, append-nil, set-get_or)) trace.rounds some)

set_twice : (lines : List (List Asked)) (i : ℕ) (some more : List Asked)
    → set (set lines i (get_or lines i [] ++ some)) i (get_or (set lines i (get_or lines i [] ++ some)) i [] ++ more)
    ≡ set lines i (get_or lines i [] ++ (some ++ more))
set_twice [] i some more = refl
set_twice (own ∷ lines) zero some more = rw (append_assoc own some more) refl
set_twice (own ∷ lines) (suc i) some more = ap (λ ls. own ∷ ls) (set_twice lines i some more)

-- lines, and more lines of the same caller
pub lines_more : (caller : ℕ) (some more : List Asked) (trace : Traced) → 0 < length trace.rounds
    → with_lines caller more (with_lines caller some trace) ≡ with_lines caller (some ++ more) trace
lines_more caller some more trace are =
    ap (λ rs. record trace { rounds = rs })
    (by_last (λ rs. with_last (asking caller more) (with_last (asking caller some) rs) ≡ with_last (asking caller (some ++ more)) rs)
    (λ front last. simp (with_last-push, set_twice)) trace.rounds are)

-- the next caller gets its lines
pub caller_more : (f : ℕ → List Asked) (callers caller : ℕ) → caller < callers
    → let lines = map f (range_with_len 0 caller) ++ replicate (callers - caller) [] in
    set lines caller (get_or lines caller [] ++ f caller) ≡ map f (range_with_len 0 (caller + 1)) ++ replicate (callers - (caller + 1)) []
caller_more f callers caller there =
    let one : callers - caller ≡ suc (callers - (caller + 1)) = omega arith in
    let before = map f (range_with_len 0 caller) in
    let others = replicate {A = List Asked} (callers - (caller + 1)) [] in
    let many : length before ≡ caller = length-map-range_with_len f 0 caller in
    rw (one, get_or_at before [] others [] caller many, set_at before [] others (f caller) caller many, map-range_with_len_more f 0 caller caller (omega arith))
    (rw append_assoc refl)

-- what is made of one number more
pub made_more : {A : Type 0} (f : ℕ → A) (n : ℕ) → map f (range_with_len 0 (n + 1)) ≡ map f (range_with_len 0 n) ++ f n ∷ []
made_more f n = map-range_with_len_more f 0 n n (omega arith)

-- how a trace is drawn
pub ruleset drawings = (common_steps, made_more, lines_none, lines_more, caller_more, length-with_last, with_last-push, last_tick-push, next_drawn, first_number, cut_ramp, length-ramp)
