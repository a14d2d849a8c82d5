-- Passes that tests keep, one by one.
use Rattle.std.proofs.Common.{◌≡◌, ℕ, ◌<◌, ⊎_elim, inl, inr, List, length, set, slice_index_or, subst, sym, ap, ◌∙◌, arith}
use Rattle.std.proofs.lemmas.List.{get_or_default, length-set}
use mathlib.Core.Option.{some}
use lib.ListN.{get_elem?}
use Rattle.atomic_table.proofs.Lists.{at_index, at_set}
use Rattle.report_api.specs.{DeskMemo, IsPassOf, pass_memo}
use Rattle.report_api.specs.declared.pass.Pass.{Pass}
use Rattle.report_api.specs.declared.shared.Shared.{Shared}
use Rattle.main_function.specs.Standing.{AreAllPasses}
use Rattle.test_reports.specs.Running.{ArePassesLeft, IsSamePass}

-- the element at a place of the list
at_place : {A : Type 0} (xs : List A) (i : ℕ) (d : A) → i < length xs → get_elem? xs i ≡ some (slice_index_or xs i d)
at_place xs i d low = at_index xs i (slice_index_or xs i d) low (get_or_default xs i d (slice_index_or xs i d) low)

module _ {shared : Shared} {desk : DeskMemo} {passes : List Pass} where
  -- of passes that are left, there are all
  pub all_left : ArePassesLeft shared desk passes → (i : ℕ) → i < length passes → AreAllPasses shared desk passes
  all_left are i low = ⊎_elim (λ none. let no : i < 0 = subst (λ (xs : List Pass). i < length xs) none low in absurd (omega (arith, no))) (λ all. all) are

  -- they are left while none comes back
  pub left_on : ArePassesLeft shared desk passes → (now : DeskMemo) → now.back ≡ desk.back → ArePassesLeft shared now passes
  left_on (inl none) now back = inl none
  left_on (inr are) now back = inr (record { all = are.all ∙ ap length (sym back); each = are.each })

  -- each of them is one of the making
  pub pass_at : AreAllPasses shared desk passes → (i : ℕ) (d : Pass) → i < length passes → IsPassOf shared (slice_index_or passes i d)
  pass_at are i d low = (are.each i _ (at_place passes i d low)).0

  -- one of them made a call
  pub one_called : AreAllPasses shared desk passes → (i : ℕ) (d pass : Pass) → i < length passes
      → IsSamePass shared (slice_index_or passes i d) pass → AreAllPasses shared desk (set passes i pass)
  one_called are i d pass low same = record {
    all = length-set passes i pass ∙ are.all;
    each = λ j other at. ⊎_elim
        (λ here. subst (λ (p : Pass). IsPassOf shared p × ((pass_memo p).number ≡ j)) here.1
        (same.is_pass, same.same ∙ ((are.each i _ (at_place passes i d low)).1 ∙ sym here.0)))
        (λ else. are.each j other else.1)
        (at_set passes i j pass other at);
  }
