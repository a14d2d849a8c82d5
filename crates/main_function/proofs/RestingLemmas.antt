-- A rest: a turn while the desk holds all passes, which go on then.
use Rattle.main_function.proofs.Names.{◌≡◌, ℕ, List, length, map, sym, ap, ◌∙◌, arith, length-map, at_length, there, Buffer, AllOf, GaveBack, givers_of, desk_memo, PassMemo, pass_memo, Pass, Desk, Shared, came, get_elem?, some, at_map, ended, resumed, AreAllPasses, AreHeld, HaveGoneOn, memos_of}

-- a turn brings no pass back and releases none
pub held_still : {shared : Shared} {desk after : Desk} {passes : List Pass} {bufs : List Buffer} → AreHeld shared desk passes
    → (desk_memo after).back ≡ (desk_memo desk).back → AllOf (GaveBack bufs) (givers_of desk.givers) (givers_of after.givers) → AreHeld shared after passes
held_still {shared} {desk} {after} held same gave = record {
  all = held.all ∙ sym (ap length same);
  each = λ j pass at.
      let was = held.each j pass at in
      record {
        memo = was.memo;
        memos = was.memos;
        number_is = was.number_is;
        back_at = rw same was.back_at;
        givers_at = λ i giver is.
            let old = there (givers_of desk.givers) i (omega (arith, at_length (givers_of after.givers) i giver is, gave.as_many)) in
            rw (gave.each i old.0 giver old.1 is).back_is (was.givers_at i old.0 old.1);
        held = was.held;
      };
}

module _ {P : Type 0} (pass_of : P → Pass) (shared : Shared) (desk : Desk) (olds nows : List P) (gone : HaveGoneOn shared desk (map pass_of nows))
    (back : (desk_memo desk).back ≡ map came (memos_of pass_of olds)) where
  many : length nows ≡ length olds
  many = omega (arith, gone.0, ap length back, length-map nows pass_of, length-map (memos_of pass_of olds) came, length-map olds (λ has. pass_memo (pass_of has)))

  pub as_many : length (memos_of pass_of nows) ≡ length (memos_of pass_of olds)
  as_many = length-map nows (λ has. pass_memo (pass_of has)) ∙ many ∙ sym (length-map olds (λ has. pass_memo (pass_of has)))

  -- each pass knows what it knew, and that it rested
  pub back_now : (c : ℕ) (pass : PassMemo) → get_elem? (memos_of pass_of olds) c ≡ some pass
      → get_elem? (memos_of pass_of nows) c ≡ some (resumed (desk_memo desk).offered (ended pass))
  back_now c pass at =
      let now = there nows c (omega (arith, many, at_length (memos_of pass_of olds) c pass at, length-map olds (λ has. pass_memo (pass_of has)))) in
      let on = gone.1 c (pass_of now.0) (at_map pass_of nows c now.0 now.1) in
      let stood : get_elem? (desk_memo desk).back c ≡ some (came pass) = rw back (at_map came (memos_of pass_of olds) c pass at) in
      let same : on.memo ≡ ended pass = grind (arith, on.back_at, stood) in
      at_map (λ has. pass_memo (pass_of has)) nows c now.0 now.1 ∙ ap some (on.goes_on ∙ ap (resumed (desk_memo desk).offered) same)

  pub all_again : (first : Desk) → length (desk_memo first).back ≡ length (desk_memo desk).back → AreAllPasses shared (desk_memo first) (map pass_of nows)
  all_again first long = record { all = gone.0 ∙ sym long; each = λ i pass at. let on = gone.1 i pass at in (on.is_pass, on.number_is) }
