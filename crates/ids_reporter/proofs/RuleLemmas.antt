-- Pairs, feeder by feeder; each move keeps the rule; and what the ends of a relay show.
use Rattle.ids_reporter.proofs.Names.{◌≡◌, ◌≢◌, ℕ, ◌+◌, ◌<◌, ◌≤◌, ◌⊎◌, inr, List, [], ◌∷◌, ◌++◌, length, Some, None, refl, sym, ap, ◌∙◌, append_assoc, arith, length-append, length-range_with_len, Option, indexes, upto, Taken, ◌==◌, if◌then◌else◌, set, some, get_elem?, at_set, Known, Nothing, Feeds, Drains, AddsUp, AreWithin, Fits, HasPut, HasTaken, IsDraining, IsRelayed, new_feeder, with_back, with_feeder, with_taken, taken_in, made_in, back_in, common_steps, take_at, take, get_or, take-append-drop, MatchOption, OnErr, ok_or, HasEnded, nat_tests, rules, map-id, map-range_with_len_more, take-map-range_with_len, set_else}
use Rattle.crossbeam_queue.specs.Fifo.{Held, Pushes, Pops, Forks, Merges, Learns}

pub indexes-append : (s : ℕ) (xs ys : List Taken) → indexes s (xs ++ ys) ≡ indexes s xs ++ indexes s ys
indexes-append s xs ys = grind (arith, common_steps)

-- what a feeder's pairs in turn begin with are its pairs in turn
pub front_of : (s n : ℕ) (xs ys : List Taken) → indexes s (xs ++ ys) ≡ upto n → indexes s xs ≡ upto (length (indexes s xs))
front_of s n xs ys e =
    let taken = simp map-id at (take-map-range_with_len (λ x. x) 0 n (length (indexes s xs))) in
    grind (arith, common_steps, length-range_with_len, take_at (indexes s xs) (indexes s ys), taken)

-- where a feeder put its next pair, it is its last
pub one_here : (s k : ℕ) (pairs : List Taken) (pair : Taken) → pair.source ≡ s → pair.index ≡ k → indexes s pairs ≡ upto k
    → indexes s (pairs ++ pair ∷ []) ≡ upto (k + 1)
one_here s k pairs pair source index e = grind (arith, common_steps, simp map-id at (map-range_with_len_more (λ x. x) 0 k k))

-- ---- what the passes know

-- a function that is changed at one number
abbrev changed : {A : Type 0} → ℕ → A → (ℕ → A) → ℕ → A
changed s value f t = if t == s then value else f t

-- a change at a number that is another's does not touch what a pass knows
stays : (drain s j : ℕ) (x : Option ℕ) (seat : ℕ → Option ℕ) (puts puts' : ℕ → ℕ) (taken : List Taken) (u : Known)
    → ((seat s ≡ Some j) ⊎ ((seat s ≡ None) × (j ≡ drain)) → ⊥) → ((t : ℕ) → t ≢ s → puts' t ≡ puts t)
    → Fits drain seat puts taken j u → Fits drain (changed s x seat) puts' taken j u
stays drain s j x seat puts puts' taken (Drains made took back) others same fits =
    (fits.0, fits.1, (λ t n ended. let was = fits.2 t n ended in grind (arith, nat_tests, same t)), fits.3)
stays drain s j x seat puts puts' taken u others same fits = grind (arith, nat_tests)

-- a pass moves, and each other fits as before
placed : (views : List Known) (pass : ℕ) (w : Known) {F G : ℕ → Known → Type 0} → ((j : ℕ) (u : Known) → get_elem? views j ≡ some u → F j u)
    → G pass w → ((j : ℕ) (u : Known) → j ≢ pass → F j u → G j u) → (j : ℕ) (u : Known) → get_elem? (set views pass w) j ≡ some u → G j u
placed views pass w fit mine others j u e = grind (arith, at_set views pass j w u e, others j u, fit j u)

-- the drain's view
draining : (v : Known) → IsDraining v → v ≡ Drains (made_in v) (taken_in v) (back_in v)
draining v is = search rules

-- a new pass, or an old one
at_end : (views : List Known) (w u : Known) (j : ℕ) → get_elem? (views ++ w ∷ []) j ≡ some u
    → (get_elem? views j ≡ some u) ⊎ ((j ≡ length views) × (w ≡ u))
at_end [] w u j e = grind arith
at_end (x ∷ views) w u j e = grind (arith, at_end views w u)

-- ---- the moves

pub begins : IsRelayed [] (Drains 0 [] [] ∷ [])
begins = record { drain = 0; seat = λ s. None; puts = λ s. 0; taken = []; whole = λ s. refl; fit = λ j u e. grind (arith, at_end [] _ u j e) }

-- a feeder puts its next pair
pub adds : (n pass : ℕ) (v : Known) (pair : Taken) → v ≡ Feeds pair.source pair.index → Pushes IsRelayed n pass v pair (HasPut v pair)
adds n pass v pair is = rw is (λ items views room h at.
    let s = pair.source in
    let k = pair.index in
    let mine : (h.seat s ≡ Some pass) × (h.puts s ≡ k) = h.fit pass (Feeds s k) at in
    let puts : ℕ → ℕ = changed s (k + 1) h.puts in
    let whole : (t : ℕ) → indexes t (h.taken ++ (items ++ pair ∷ [])) ≡ upto (puts t) = λ t.
    grind (arith, common_steps, nat_tests, append_assoc h.taken items (pair ∷ []), h.whole t, one_here t k (h.taken ++ items) pair) in
    let fit = placed views pass (Feeds s (k + 1)) {G = Fits h.drain (changed s (Some pass) h.seat) puts h.taken} h.fit (grind (arith, nat_tests))
    (λ j u other. stays _ s _ _ _ _ _ _ u (λ e. grind arith) (λ t ne. grind (arith, nat_tests))) in
    (Feeds s (k + 1), record { drain = h.drain; seat = changed s (Some pass) h.seat; puts = puts; taken = h.taken; whole = whole; fit = fit }, refl))

-- the drain takes a pair
pub takes : (pass : ℕ) (v : Known) → IsDraining v → Pops IsRelayed pass v (HasTaken v)
takes pass v is pair items views h at =
    let w : Known = with_taken pair v in
    let now : List Taken = taken_in w in
    let mine = rw (draining v is) at (h.fit pass v at) in
    let whole : (t : ℕ) → indexes t (now ++ items) ≡ upto (h.puts t) = λ t.
    grind (arith, append_assoc (taken_in v) (pair ∷ []) items, h.whole t, mine.1) in
    let within : AreWithin w = λ t n ended.
    let size = rw (indexes-append t now items) at (ap (λ l. length l) (whole t)) in
    omega (arith, size, length-append {A = ℕ}, length-range_with_len, (mine.2 t n ended).1) in
    let fit = placed views pass w {G = Fits h.drain h.seat h.puts now} h.fit (mine.0, refl, mine.2, mine.3) (λ j u other fits. search rules) in (
      w,
      record { drain = h.drain; seat = h.seat; puts = h.puts; taken = now; whole = whole; fit = fit },
      record {
        took = refl;
        in_order = λ t. front_of t (h.puts t) now items (whole t);
        one_left = λ n ended. grind (arith, common_steps, within pair.source n ended);
        within = within;
      },
    )

-- the drain looks at what is left
pub looks : (pass : ℕ) (v : Known) → IsDraining v → Learns IsRelayed pass v (AddsUp v)
looks pass v is items views h at t n ended =
    let mine = rw (draining v is) at (h.fit pass v at) in grind (arith, length-range_with_len, mine.1, h.whole t, mine.2 t n ended)

-- the drain makes a feeder
pub makes : (pass : ℕ) (v : Known) → IsDraining v → Forks IsRelayed pass v (with_feeder v) (new_feeder v)
makes pass v is items views h at =
    let s = made_in v in
    let all : List Known = set views pass (with_feeder v) in
    let mine = rw (draining v is) at (h.fit pass v at) in
    let free = mine.2 s 0 (inr (omega arith, refl)) in
    let seat : ℕ → Option ℕ = changed s (Some (length all)) h.seat in
    let old = placed views pass (with_feeder v) {G = Fits h.drain seat h.puts h.taken} h.fit
    (mine.0, mine.1, (λ t n ended. grind (arith, nat_tests, mine.2 t n, mine.3 t n)), λ t n x. omega (arith, mine.3 t n x))
    (λ j u other. stays _ s _ _ _ _ _ _ u (λ e. grind arith) (λ t _. refl)) in
    let fit : (j : ℕ) (u : Known) → get_elem? (all ++ Feeds s 0 ∷ []) j ≡ some u → Fits h.drain seat h.puts h.taken j u = λ j u e.
    grind (arith, nat_tests, at_end all (Feeds s 0) u j e, old j u) in
    record { drain = h.drain; seat = seat; puts = h.puts; taken = h.taken; whole = h.whole; fit = fit }

-- the drain takes a feeder back
pub welcomes : (pass : ℕ) (v : Known) (other : ℕ) (u : Known) (s k : ℕ) → IsDraining v → u ≡ Feeds s k
    → Merges IsRelayed pass v other u (with_back v u) Nothing
welcomes pass v other u s k is knows = rw knows (λ items views h at two at'.
    let w : Known = with_back v (Feeds s k) in
    let mine = rw (draining v is) at (h.fit pass v at) in
    let theirs : (h.seat s ≡ Some other) × (h.puts s ≡ k) = h.fit other (Feeds s k) (sym (set_else views pass other w two) ∙ at') in
    let below : s < made_in v = grind (arith, λ (le : made_in v ≤ s). (mine.2 s 0 (inr (le, refl))).0) in
    let Now : ℕ → Known → Type 0 = Fits h.drain (changed s None h.seat) h.puts h.taken in
    let fit = placed (set views pass w) other Nothing {G = Now} (placed views pass w {G = λ j y. j ≢ other → Now j y} h.fit
    (λ _. (mine.0, mine.1, (λ t n ended. grind (arith, nat_tests, mine.2 t n)), λ t n x. grind (arith, mine.3 t n)))
    (λ j y _ fits away. stays _ s _ _ _ _ _ _ y (λ e. grind arith) (λ t _. refl) fits)) tt (λ j y away fits. fits away) in
    record { drain = h.drain; seat = changed s None h.seat; puts = h.puts; taken = h.taken; whole = h.whole; fit = fit })

-- ---- what the ends show

-- where all adds up, there is no pair too many
pub adds_within : (v : Known) (items : List Taken) → AddsUp v items → AreWithin v
adds_within v items up s n ended = grind (arith, indexes-append, length-append, up s n ended)

-- where the queue was empty, all was taken
pub none_left : {E : Type 0} (pair : Option Taken) (none : E) (v w : Known) (Took : Taken → Type 0)
    → MatchOption pair ((w ≡ v) × Held 0 (AddsUp v)) Took
    → OnErr (ok_or pair none) ((s n : ℕ) → HasEnded s n w → length (indexes s (taken_in w)) ≡ n)
none_left (Some pair) none v w Took told = tt
none_left None none v w Took told = rw told.0 (λ s n ended. grind (arith, common_steps, told.1.2 s n ended))

-- the last of the first items of a list
pub popped : {A : Type 0} (front all : List A) (last : A) (n : ℕ) → front ++ last ∷ [] ≡ take n all
    → (front ≡ take (length front) all) × ((d : A) → get_or all (length front) d ≡ last)
popped front all last n e = grind (arith, common_steps, take-append-drop n all, append_assoc)
