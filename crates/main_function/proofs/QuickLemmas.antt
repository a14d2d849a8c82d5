-- How many steps a turn and a close make.
use Rattle.main_function.proofs.Names.{◌≡◌, ℕ, ◌+◌, ◌<◌, List, length, sym, subst, arith, Entry, Turn, Buffer, AllOf, givers_of, at_length, there, IsDeskOf, desk_memo, Desk, Shared, IsQuick, MakesTurn, OnlyMoves, OnlyWelcomes, queue_positions, GaveBack}
use Rattle.main_function.proofs.ReportLemmas.{turn_adds}

-- a turn, which is made of so many places and gives these buffers back
pub turn_is_quick : {shared : Shared} {positions : ℕ} {old new : Desk} {taken : List (Entry Buffer)} {turn : Turn} {back : List Buffer}
    → IsDeskOf shared old → positions ≡ queue_positions shared.queue → (desk_memo old).offered ≡ positions + length (desk_memo old).notes → MakesTurn positions (desk_memo old) taken turn (desk_memo new)
    → AllOf (GaveBack back) (givers_of old.givers) (givers_of new.givers) → IsQuick shared 0 old new
turn_is_quick {shared} {old = old} mine positions_are offered makes gave = record {
  at_reports = λ config made_for.
      omega (arith, (turn_adds _ _ _ _ _ makes).few_moves offered, positions_are, made_for.positions_are, made_for.callers_are, mine.taker.seats_are);
  at_class = λ config made_for i before after at_before at_after.
      let class = there shared.classes.classes.items i (subst (λ n. i < n) mine.givers.all (at_length (givers_of old.givers) i before at_before)) in
      let giver = mine.givers.each i class.0 before class.1 at_before in
      let numbers = made_for.numbers i class.0 class.1 in
      omega (arith, (gave.each i before after at_before at_after).steps, giver.number_is, giver.seats_are, numbers.0, numbers.1);
}

-- a turn after passes that came back
pub close_is_quick : (shared : Shared) (came : ℕ) (old mid new : Desk) → length (desk_memo mid).moves ≡ length (desk_memo old).moves + came
    → AllOf (λ i. OnlyWelcomes came) (givers_of old.givers) (givers_of mid.givers) → IsQuick shared 0 mid new → IsQuick shared came old new
close_is_quick shared came old mid new more welcomed quick = record {
  at_reports = λ config made_for. omega (arith, more, quick.at_reports config made_for);
  at_class = λ config made_for i before after at_before at_after.
      let between = there (givers_of mid.givers) i
      (subst (λ n. i < n) (sym welcomed.as_many) (at_length (givers_of old.givers) i before at_before)) in
      omega (arith, (welcomed.each i before between.0 at_before between.1).moves_are, quick.at_class config made_for i between.0 after between.1 at_after);
}

-- and one whose passes go on then
pub rest_is_quick : (shared : Shared) (n : ℕ) (old mid new : Desk) → OnlyMoves n mid new → IsQuick shared n old mid → IsQuick shared (n + n) old new
rest_is_quick shared n old mid new moved quick = record {
  at_reports = λ config made_for. omega (arith, moved.moves_are, quick.at_reports config made_for);
  at_class = λ config made_for i before after at_before at_after.
      let between = there (givers_of mid.givers) i
      (subst (λ n. i < n) moved.givers_are.as_many (at_length (givers_of new.givers) i after at_after)) in
      omega (arith, (moved.givers_are.each i between.0 after between.1 at_after).moves_are, quick.at_class config made_for i before between.0 at_before between.1);
}
