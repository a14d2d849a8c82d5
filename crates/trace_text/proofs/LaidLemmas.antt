-- Rounds as they lie in memory, one after the other: each is read from its places, and what a change leaves.
use Rattle.trace_text.proofs.Names.{◌≡◌, ℕ, suc, ◌+◌, ◌-◌, ◌<◌, ◌≤◌, ◌^◌, List, [], ◌∷◌, ◌++◌, length, take, drop, set, get_or, refl, sym, ap, subst, ◌∙◌, inl, inr, arith, length-append, length-set, get_or-set_same, get_or-set_other, drop-cons, flat_map, replicate, slice_index, slice_range, drop_at, get_or_append_left, get_or_push, length-replicate, take-append-drop, take-append-le, take_all, take_at, take_more, lines_at, lines_of, last_tick, flat_map-push, all_append, all_split, by_last, last_tick-push, with_last-push, asked_more, begun_round, ended_at, with_last, AreTicks, Asked, Round, RoundEnd, IsEnd, Laid, Lie, Traced, at_start, end_at, lines_between, round_at, round_between, rounds_laid, laid_of, cases_lt, common_steps, All-from_recursion, last_from}
use Rattle.std.proofs.lemmas.List.FromFn.{fill_by_all}
use Rattle.trace_text.specs.declared.trace.Trace.TheInside.{Inside}
use Rattle.trace_text.specs.TraceView.{IsSound, traced}
use Rattle.trace_text.proofs.StandsLemmas.{same_replicate}

-- ---- the pieces of a joined list

-- such a piece of a list stands between two places
pub record IsPiece {B : Type 0} (all : List B) (start end : ℕ) (piece : List B) : Type 0 where
  pub long : start + length piece ≡ end
  pub within : end ≤ length all
  pub is : slice_range all start end ≡ piece
  pub at : (i : ℕ) (d : B) → i < length piece → get_or all (start + i) d ≡ get_or piece i d

piece : {A B : Type 0} (f : A → List B) (xs : List A) (k start end : ℕ) (d : A) → k < length xs → start ≡ length (flat_map f (take k xs)) → end ≡ length (flat_map f (take (k + 1) xs))
    → IsPiece (flat_map f xs) start end (f (get_or xs k d))
piece f xs k start end d within starts ends =
    let whole : flat_map f xs ≡ flat_map f (take k xs) ++ (f (get_or xs k d) ++ flat_map f (drop (suc k) xs)) = grind (arith, common_steps, take-append-drop k xs, drop-cons xs k d within) in
    rw whole (grind (arith, common_steps, length-append, drop_at, take_at))

-- ---- rounds by their places

module _ (laid : Laid) (rounds : List Round) (lie : Lie laid rounds) where
  module _ (k : ℕ) (within : k < length rounds) where
    -- the ticks beside the calls of a round, the lines of each caller in it, and its last tick
    pub ticks_at : IsPiece laid.beside (end_at laid.ends k).beside (end_at laid.ends (k + 1)).beside (round_at rounds k).beside
    ticks_at = rw lie.beside (piece (λ (r : Round). r.beside) rounds k _ _ (begun_round 0 [] 0) within (lie.ends k (omega arith)).beside (lie.ends (k + 1) (omega arith)).beside)

    pub lines_in : (caller : ℕ) → IsPiece (get_or laid.lines caller []) (slice_index (end_at laid.ends k).lines caller) (slice_index (end_at laid.ends (k + 1)).lines caller) (lines_at caller (round_at rounds k))
    lines_in caller = rw (lie.lines caller) (piece (lines_at caller) rounds k _ _ (begun_round 0 [] 0) within ((lie.ends k (omega arith)).lines caller) ((lie.ends (k + 1) (omega arith)).lines caller))

    pub after_is : (end_at laid.ends (k + 1)).after ≡ (round_at rounds k).after
    after_is = (lie.ends (k + 1) (omega arith)).after ∙ ap last_tick (take_more rounds k (begun_round 0 [] 0) within) ∙ last_tick-push (take k rounds) (round_at rounds k)

    -- what stands between two places is the round
    round_is : round_between laid (end_at laid.ends k) (end_at laid.ends (k + 1)) ≡ round_at rounds k
    round_is =
        let lines = fill_by_all (lines_between laid (end_at laid.ends k) (end_at laid.ends (k + 1))) (round_at rounds k).lines (length laid.lines) [] (All-from_recursion _ rounds lie.callers k (begun_round 0 [] 0) within)
        (λ caller there. sym (lines_in caller).is) in
        rw (ticks_at.is, sym lines, after_is) refl

  -- the rounds that lie so are these
  pub rounds_are : rounds_laid laid ≡ rounds
  rounds_are = sym (fill_by_all (λ k. round_between laid (end_at laid.ends k) (end_at laid.ends (k + 1))) rounds (length laid.ends - 1) (begun_round 0 [] 0) (omega (arith, lie.as_many)) (λ k within. sym (round_is k (omega (arith, lie.as_many)))))

  -- the last place, which stands after all lines of each caller
  pub last_is : IsEnd rounds (end_at laid.ends (length laid.ends - 1))
  last_is =
      let place : length rounds ≡ length laid.ends - 1 = omega (arith, lie.as_many) in
      rw (← place) (rw (take_all (length rounds) rounds (omega arith)) at (lie.ends (length rounds) (omega arith)))

  pub all_counted : (caller : ℕ) → slice_index (end_at laid.ends (length laid.ends - 1)).lines caller ≡ length (get_or laid.lines caller [])
  all_counted caller = rw (lie.lines caller) (last_is.lines caller)

-- the lists of a trace are those of its rounds
pub lie_of : {t : Inside} {trace : Traced} → traced t ≡ trace → IsSound t → Lie (laid_of t) trace.rounds
lie_of {t = t} is sound = subst (λ (v : Traced). Lie (laid_of t) v.rounds) is sound.lie

-- rounds that lie so are those of the trace, which is sound
pub now_sound : (t : Inside) (rounds : List Round) → length t.rows ≤ 32 → ((caller : ℕ) → length (get_or t.rows caller []) < 2 ^ 32) → Lie (laid_of t) rounds → AreTicks rounds → IsSound t
now_sound t rounds few few_lines lie ticks =
    let are = rounds_are (laid_of t) rounds lie in
    record { few = few; few_lines = few_lines; lie = rw are lie; ticks = rw are ticks }

-- ---- a trace without rounds

pub none_sound : (t : Inside) (callers : ℕ) → callers ≤ 32 → t.beside.items ≡ [] → t.rows ≡ replicate callers [] → t.ends.items ≡ at_start ∷ [] → IsSound t
none_sound t callers few ticks rows ends =
    let none = same_replicate {A = List Asked} callers in
    now_sound t [] (grind (arith, rows, length-replicate, few)) (λ caller. rw (rows, none caller []) (omega arith)) (record {
      beside = ticks;
      lines = λ caller. rw (rows, none caller []) refl;
      callers = tt;
      as_many = ap length ends;
      ends = λ k le. let none : k ≡ 0 = omega arith in rw (none, ends) (record { beside = refl; lines = λ caller. same_replicate 32 caller 0; all_callers = refl; after = refl });
    }) (record { small = tt; keep_up = tt })

-- ---- changes

-- the places after a change of the last round
ends_are : (ends : List RoundEnd) (front : List Round) (round : Round) → ((k : ℕ) → k ≤ length front → IsEnd (take k front) (end_at ends k)) → IsEnd (front ++ round ∷ []) (end_at ends (length front + 1))
    → (k : ℕ) → k ≤ length (front ++ round ∷ []) → IsEnd (take k (front ++ round ∷ [])) (end_at ends k)
ends_are ends front round before last k within = elim (cases_lt k (length front + 1)) [
  | inl less ↦ rw (take-append-le k front (round ∷ []) (omega arith)) (before k (omega arith))
  | inr more ↦ let here : k ≡ length front + 1 = grind (arith, length-append) in rw (take_all k (front ++ round ∷ []) (grind (arith, length-append)), here) last
]

-- a round more
pub round_lies : (laid : Laid) (rounds : List Round) (more : List ℕ) (end : RoundEnd) → Lie laid rounds → end.beside ≡ length (laid.beside ++ more) → end.lines ≡ (end_at laid.ends (length laid.ends - 1)).lines
    → Lie (record { beside = laid.beside ++ more; lines = laid.lines; ends = laid.ends ++ end ∷ [] }) (rounds ++ begun_round (length laid.lines) more end.after ∷ [])
round_lies laid rounds more end lie ticks counts =
    let round = begun_round (length laid.lines) more end.after in
    let last = last_is laid rounds lie in
    let beside : laid.beside ++ more ≡ flat_map (λ (r : Round). r.beside) (rounds ++ round ∷ []) = rw (lie.beside, flat_map-push (λ (r : Round). r.beside) rounds round) refl in
    let lines : (caller : ℕ) → get_or laid.lines caller [] ≡ lines_of caller (rounds ++ round ∷ []) = λ caller. grind (arith, common_steps, lie.lines caller, flat_map-push (lines_at caller) rounds round, same_replicate {A = List Asked} (length laid.lines) caller []) in
    record {
      beside = beside;
      lines = lines;
      callers = all_append _ rounds (round ∷ []) lie.callers (length-replicate (length laid.lines) [], tt);
      as_many = grind (arith, length-append, lie.as_many);
      ends = ends_are (laid.ends ++ end ∷ []) rounds round (λ k le. rw (get_or_append_left laid.ends (end ∷ []) at_start k (omega (arith, lie.as_many))) (lie.ends k le))
          (rw (get_or_push laid.ends end at_start (length rounds + 1) lie.as_many) (grind (arith, beside, ticks, counts, lines, lie.lines, last, last_tick-push)));
    }

-- the lists with other lines and another last place
abbrev pub with_end : Laid → List (List Asked) → RoundEnd → Laid
with_end laid lines end = record { beside = laid.beside; lines = lines; ends = set laid.ends (length laid.ends - 1) end }

abbrev pub last_end : Laid → RoundEnd
last_end laid = end_at laid.ends (length laid.ends - 1)

-- with a line more of a caller, and with another last tick
abbrev pub and_line : Laid → ℕ → Asked → ℕ → Laid
and_line laid caller asked count =
    with_end laid (set laid.lines caller (get_or laid.lines caller [] ++ asked ∷ [])) (record (last_end laid) { lines = set (last_end laid).lines caller count })

abbrev pub and_tick : Laid → ℕ → Laid
and_tick laid tick = with_end laid laid.lines (record (last_end laid) { after = tick })

module _ (laid : Laid) (front : List Round) (round : Round) (lie : Lie laid (front ++ round ∷ [])) where
  ends_last : IsEnd (front ++ round ∷ []) (last_end laid)
  ends_last = last_is laid (front ++ round ∷ []) lie

  -- another last round, of as many callers and with the same ticks beside its calls
  changed : (now : Round) (lines : List (List Asked)) (end : RoundEnd) → now.beside ≡ round.beside → length now.lines ≡ length round.lines → length lines ≡ length laid.lines
      → ((caller : ℕ) → get_or lines caller [] ≡ lines_of caller (front ++ now ∷ [])) → IsEnd (front ++ now ∷ []) end → Lie (with_end laid lines end) (front ++ now ∷ [])
  changed now lines end same as_many all_callers its ends =
      let place : length front + 1 ≡ length laid.ends - 1 = grind (arith, length-append, lie.as_many) in
      let lists = all_split (λ (r : Round). length r.lines ≡ length laid.lines) front (round ∷ []) lie.callers in
      record {
        beside = grind (arith, common_steps, lie.beside, flat_map-push (λ (r : Round). r.beside) front);
        lines = its;
        callers = rw all_callers (all_append _ front (now ∷ []) lists.0 (as_many ∙ lists.1.0, tt));
        as_many = grind (arith, length-set, length-append, lie.as_many);
        ends = ends_are (set laid.ends (length laid.ends - 1) end) front now
            (λ k le. rw (get_or-set_other laid.ends (length laid.ends - 1) k end at_start (λ e. omega arith)) (rw take-append-le at (lie.ends k (omega (arith, length-append front (round ∷ []))))))
            (rw (place, get_or-set_same laid.ends (length laid.ends - 1) end at_start (omega (arith, lie.as_many))) ends);
      }

  pub line_lies : (caller : ℕ) (asked : Asked) (count : ℕ) → caller < length laid.lines → caller < 32 → count ≡ slice_index (last_end laid).lines caller + 1
      → Lie (and_line laid caller asked count) (front ++ asked_more caller asked round ∷ [])
  line_lies caller asked count there few is =
      let lists = all_split (λ (r : Round). length r.lines ≡ length laid.lines) front (round ∷ []) lie.callers in
      let now = asked_more caller asked round in
      let its : (k : ℕ) → get_or (set laid.lines caller (get_or laid.lines caller [] ++ asked ∷ [])) k [] ≡ lines_of k (front ++ now ∷ []) =
      λ k. grind (arith, common_steps, lie.lines, lists.1.0, flat_map-push (lines_at k) front) in
      changed now _ _ refl (length-set round.lines caller _) (length-set laid.lines caller _) its
      (grind (arith, common_steps, is, ends_last, its, all_counted laid (front ++ round ∷ []) lie, last_tick-push, flat_map-push (λ (r : Round). r.beside) front))

  pub end_lies : (tick : ℕ) → Lie (and_tick laid tick) (front ++ ended_at tick round ∷ [])
  end_lies tick =
      let its : (caller : ℕ) → lines_of caller (front ++ round ∷ []) ≡ lines_of caller (front ++ ended_at tick round ∷ []) = λ caller. grind (arith, flat_map-push (lines_at caller) front) in
      changed (ended_at tick round) laid.lines _ refl refl refl (λ caller. lie.lines caller ∙ its caller)
      (grind (arith, ends_last, its, last_tick-push, flat_map-push (λ (r : Round). r.beside) front))

-- a change of the last round, whatever rounds are before it
pub last_lies : (laid now : Laid) (change : Round → Round) (rounds : List Round) → Lie laid rounds → 0 < length rounds → ((front : List Round) (round : Round) → Lie laid (front ++ round ∷ []) → Lie now (front ++ change round ∷ []))
    → Lie now (with_last change rounds)
last_lies laid now change rounds lie some each = by_last (λ rs. Lie laid rs → Lie now (with_last change rs)) (λ front round it. rw with_last-push (each front round it)) rounds some lie

-- the last of some ticks by its place
pub last_from_at : (tick : ℕ) (ticks : List ℕ) (d : ℕ) → 0 < length ticks → get_or ticks (length ticks - 1) d ≡ last_from tick ticks
last_from_at tick [] d some = absurd (omega arith)
last_from_at tick (next ∷ []) d some = refl
last_from_at tick (next ∷ other ∷ ticks) d some = grind (arith, common_steps, last_from_at next (other ∷ ticks) d (omega arith))
