-- All passes come back, the last first.
use Rattle.main_function.proofs.Names.{◌≡◌, ℕ, suc, ◌+◌, List, [], ◌∷◌, ◌++◌, length, map, slice_set, take, refl, sym, ap, ◌∙◌, arith, append-nil, at_length, there, AllOf, Welcomed, welcomes, DeskMemo, PassMemo, IsPassOf, pass_memo, Pass, Shared, OnlyWelcomes, all_back, came, common_steps, append_assoc, length-take-le, set-append_left, take_all, get_elem?, some, take-set-lt, take-suc-set, Giver}

-- the last of some passes comes back before the others
pub back_last : (left : List Pass) (pass : Pass) (now : DeskMemo)
    → all_back (map pass_memo (left ++ pass ∷ [])) now ≡ all_back (map pass_memo left) (welcomes (pass_memo pass) now)
back_last [] pass now = refl
back_last (p ∷ left) pass now = ap (welcomes (pass_memo p)) (back_last left pass now)

-- passes that come back change who is back, and the moves
pub only_back : (passes : List PassMemo) (desk : DeskMemo) → let now = all_back passes desk in
    (now ≡ record desk { back = now.back; moves = now.moves }) × (length now.moves ≡ length desk.moves + length passes)
only_back [] desk = (refl, omega arith)
only_back (pass ∷ passes) desk = let rest = only_back passes desk in grind (arith, common_steps, rest)

-- so all passes whose numbers are their places, from this one on, are those that are back
pub back_from : (i : ℕ) (passes : List Pass) (desk : DeskMemo)
    → ((j : ℕ) (pass : Pass) → get_elem? passes j ≡ some pass → (pass_memo pass).number ≡ i + j) → length desk.back ≡ i + length passes
    → (all_back (map pass_memo passes) desk).back ≡ take i desk.back ++ map came (map pass_memo passes)
back_from i [] desk each long = sym (append-nil (take i desk.back) ∙ take_all i desk.back (omega (arith, long)))
back_from i (pass ∷ passes) desk each long =
    let rest = back_from (suc i) passes desk (λ j its at. omega (arith, each (suc j) its at)) (omega (arith, long)) in
    let first = length-take-le (suc i) desk.back (omega (arith, long)) in
    let number : (pass_memo pass).number ≡ i = omega (arith, each 0 pass refl) in
    let left = set-append_left (take (suc i) desk.back) (map came (map pass_memo passes)) i (came (pass_memo pass)) (omega (arith, first)) in
    let last = take-set-lt (suc i) desk.back i (came (pass_memo pass)) (omega arith) in
    let more = take-suc-set desk.back i (came (pass_memo pass)) (omega (arith, long)) in
    ap (λ n. slice_set (all_back (map pass_memo passes) desk).back n (came (pass_memo pass))) number ∙ rw (rest, left, ← last, more, append_assoc) refl

-- a giver that took one seat more
pub only_more : (n : ℕ) (shared : Shared) (pass : Pass) (olds mids news : List Giver) → IsPassOf shared pass
    → length mids ≡ length shared.classes.classes.items → AllOf (λ i. OnlyWelcomes n) olds mids → AllOf (Welcomed pass.claimant) mids news
    → AllOf (λ i. OnlyWelcomes (n + 1)) olds news
only_more n shared pass olds mids news its as_many first second = record {
  as_many = second.as_many ∙ first.as_many;
  each = λ i old new was is.
      let mid = there mids i (omega (arith, at_length olds i old was, first.as_many)) in
      let seat = there pass.claimant.seats.items i (omega (arith, at_length mids i mid.0 mid.1, as_many, its.at.claimant.all)) in
      grind (arith, common_steps, first.each i old mid.0 was mid.1, second.each i mid.0 new mid.1 is seat.0 seat.1);
}
