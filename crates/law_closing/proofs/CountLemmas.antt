-- How many entries all callers have.
use Rattle.law_closing.proofs.Names.{Item, some, IsAllTaken, items_of, nat_tests, get_elem?, at_map, length-map, ◌≡◌, ℕ, suc, ◌+◌, ◌<◌, List, [], ◌∷◌, length, map, refl, ap, ◌∙◌, arith, nat_lt, if◌then◌else◌, sum_by, accepted_in, came}
use Rattle.std.proofs.lemmas.List.Sums.{sum_by-cons}
use Rattle.permit_ring.specs.Steps.{ended}
use Rattle.report_api.specs.Names.{Act, DeskMemo, PassMemo}

-- how many of the items are those of callers from i on
abbrev owned_from : ℕ → List (Item Act) → ℕ
owned_from i [] = 0
owned_from i (item ∷ items) = if nat_lt item.caller i then owned_from i items else suc (owned_from i items)

-- from the first caller on they are all; they are those of one caller, and of the callers after it; and none, where all callers stand before that one
owned_parts : (i t : ℕ) (items : List (Item Act)) → (owned_from 0 items ≡ length items) × (owned_from i items ≡ length (items_of i t items) + owned_from (suc i) items)
    × (((t : ℕ) (item : Item Act) → get_elem? items t ≡ some item → item.caller < i) → owned_from i items ≡ 0)
owned_parts i t [] = (refl, refl, λ within. refl)
owned_parts i t (item ∷ items) =
    let rest = owned_parts i (suc t) items in
    (grind (arith, nat_tests, rest), grind (arith, nat_tests, rest), λ within. let none = rest.2 (λ t. within (suc t)) in grind (arith, nat_tests, none, within 0 item refl))

each_accepted : (i n : ℕ) (passes : List PassMemo) (items : List (Item Act)) → n ≡ i + length passes
    → ((j k : ℕ) (pass : PassMemo) → j ≡ i + k → get_elem? passes k ≡ some pass → accepted_in pass ≡ length (items_of j 0 items))
    → owned_from n items ≡ 0 → sum_by accepted_in passes ≡ owned_from i items
each_accepted i n [] items last each none = grind (arith, none)
each_accepted i n (pass ∷ passes) items last each none =
    let rest = each_accepted (suc i) n passes items (omega arith) (λ j k its is. each j (suc k) its (omega (arith, is))) none in
    omega (arith, sum_by-cons accepted_in pass passes, each i 0 pass (omega arith) refl, (owned_parts i 0 items).1, rest)

-- so the accepted calls of all passes are as many as the items
pub all_accepted : (desk : DeskMemo) (passes : List PassMemo) → IsAllTaken desk → desk.back ≡ map came passes
    → length desk.notes ≡ sum_by accepted_in passes
all_accepted desk passes all back =
    let as_long : length desk.back ≡ length passes = ap length back ∙ length-map passes came in
    let none = (owned_parts (length passes) 0 desk.notes).2 (λ t item at. omega (arith, all.of_callers t item at, as_long)) in
    let sum = each_accepted 0 (length passes) passes desk.notes (omega arith) (λ j k pass is at. let same : j ≡ k = omega (arith, is) in
    rw same (ap length (all.whole k (ended pass) (rw back (at_map came passes k pass at))).accepted)) none in
    omega (arith, sum, (owned_parts 0 0 desk.notes).0)
