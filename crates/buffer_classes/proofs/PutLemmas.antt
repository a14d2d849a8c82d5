-- Buffers that are put one after another.
use Rattle.buffer_classes.proofs.Names.{◌≡◌, ℕ, ◌+◌, cond, ◌==◌, List, [], ◌∷◌, ◌++◌, ◌∙◌, ap, arith, set, length, length-append, append_assoc, Giver, Buffer, AllOf, OffersAll, GaveBack, class_count, Begins, Offers, Puts, filled_count, giver_memo, eq-zero-or-pos, inl, inr, nat_tests, some, only_reaps, end_steps, gave_of, get_elem?, sum_by_push, offer_keeps_settled}
use Rattle.buffer_classes.proofs.ByIndexLemmas.{all_more}

-- those of the class that are not left were put
pub record PutsSome (all left : List Buffer) (i : ℕ) (old new : Giver) : Type 0 where
  pub put : ℕ
  pub are : put + class_count i left ≡ class_count i all
  pub did : Puts put old new

-- one more
pub puts_more : (count : ℕ) (old mid new : Giver) → Puts count old mid → Puts 1 mid new → Puts (count + 1) old new
puts_more count old mid new a b = record {
  memo_is = b.memo_is ∙ a.memo_is;
  account = grind (arith, a.account, b.account, ap length b.late_is, length-append {A = Buffer});
  more = a.more ++ b.more;
  late_is = b.late_is ∙ ap (λ l. l ++ b.more) a.late_is ∙ append_assoc old.late.items a.more b.more;
  filled_up = λ was. b.filled_up (a.filled_up was);
  none_vacant = grind (arith, a.none_vacant, b.none_vacant);
  number_is = b.number_is ∙ a.number_is;
}

-- a buffer more is put where its class is, and nowhere else
pub one_put : {all back : List Buffer} {olds mids : List Giver} (left : List Buffer) (b : Buffer) → back ≡ left ++ b ∷ []
    → (i : ℕ) (mid new : Giver) → i ≡ b.class → get_elem? mids i ≡ some mid → AllOf (PutsSome all back) olds mids → Puts 1 mid new
    → AllOf (PutsSome all left) olds (set mids i new)
one_put left b is i mid new place here was one =
    let count : (j : ℕ) → class_count j (left ++ b ∷ []) ≡ class_count j left + cond (b.class == j) 1 0 =
    λ j. sum_by_push (λ (x : Buffer). cond (x.class == j) 1 0) left b in
    all_more i mid new here was
    (λ old s. record { put = s.put + 1; are = grind (arith, nat_tests, count i, s.are, is, place); did = puts_more s.put old mid new s.did one })
    (λ j old now away s. record { put = s.put; are = grind (arith, nat_tests, count j, s.are, is, place, away); did = s.did })

-- at last all are
pub all_put : {all left : List Buffer} {olds news : List Giver} → left ≡ [] → AllOf (PutsSome all left) olds news
    → AllOf (λ i. Puts (class_count i all)) olds news
all_put none was = record { as_many = was.as_many; each = λ i old new at is. grind (arith, was.each i old new at is, none) }

-- a class that was begun, where its buffers were put and which was offered
pub gave_back : (bufs : List Buffer) (i : ℕ) (old begun put new : Giver) → Begins old begun → Puts (class_count i bufs) begun put
    → Offers put new → GaveBack bufs i old new
gave_back bufs i old begun put new b p o =
    let mid = giver_memo b.0 in
    let reap = b.1 in
    let fill = b.2 in
    let only = only_reaps reap.notes (giver_memo old) in
    let same : (put.number ≡ old.number) × (mid.made ≡ (giver_memo old).made) × (giver_memo put ≡ mid) × (mid.offered ≡ (giver_memo old).offered) =
    grind (arith, p.number_is, p.memo_is, fill.number_is, fill.memo_is, reap.number_is, reap.run, only) in
    let told : OffersAll (giver_memo old).made (filled_count put) mid (giver_memo new) = rw (← same.1, ← same.2) o.told in
    let gave = gave_of (giver_memo old).made (filled_count put) mid (giver_memo new) told in
    record {
      notes = reap.notes;
      reaped = mid;
      run = reap.run;
      few = reap.few;
      offered = filled_count put;
      told = told;
      steps = grind (arith, gave, end_steps reap.notes (giver_memo old) mid reap.run, reap, only, eq-zero-or-pos (filled_count put), length-append {A = Unit {0}});
      settled = λ back. elim (eq-zero-or-pos (filled_count put)) [
        | inl none ↦ rw (told.0 none) (reap.settled back)
        | inr any ↦ offer_keeps_settled _ _ (told.1 any).0 mid (giver_memo new) (told.1 any).2 (reap.settled back)
      ];
      account = grind (arith, same, gave.offered_is, fill.account, reap.filled_is, reap.late_is, p.account, o);
      late = record {
        kept = begun.late.items;
        gone = fill.gone;
        more = p.more;
        were = grind (arith, reap.late_is, fill.late_is);
        are = grind (arith, o.late_is, p.late_is);
        first = grind (arith, same, fill, reap.filled_is, b.3, p.none_vacant, length-append {A = Buffer});
      };
      filled_up = grind (arith, b.3, p.filled_up, o.late_is, o.vacant_is);
      none_filled = o.none_filled;
      back_is = grind (arith, gave.back_is, reap.run, only.back_is);
      released_is = grind (arith, gave.released_is, reap.run, only.released_is);
      number_is = o.number_is ∙ same.0;
    }
