-- What saves leave on a disk, one after the other.
use Rattle.cmd_disk.proofs.Names.{Keeping, KeepsBehind, KeepsOneOf, KeepsRows, KeepsSome, LeavesOnly, LeavesSince, List, Row, Run, [], arith, common_steps, goes_on_with, inl, inr, is_left, length, no_call, rows_behind, rows_of, subst, suc, take, weaker, ℕ, ◌++◌, ◌+◌, ◌∷◌, ◌≡◌, ◌≤◌}
use Rattle.std.proofs.Math.Seq.{take-append-add}
use Rattle.memory_store.specs.Saving.{KeepsRowsOr}

-- the turns with the next one, which is there
pub next_turn : {A : Type 0} (taken : List A) (x : A) (rest all : List A) (count : ℕ) → taken ++ x ∷ rest ≡ all → count ≡ length taken
    → (taken ++ x ∷ [] ≡ take (suc count) all) × (suc count ≤ length all)
next_turn taken x rest all count whole many =
    (grind (arith, whole, many, take-append-add taken (x ∷ rest) 1), grind (arith, common_steps, whole, many))

module _ (keeping : Keeping) where
  -- a run that saved the records after so many turns
  pub record IsSavedTo (saves : ℕ) (old new : Run) : Type 0 where
    pub any_moment : LeavesSince old new (KeepsSome keeping)
    pub now : LeavesOnly (KeepsBehind keeping saves) new.now

  -- before the first save the disk keeps what was there
  pub none_saved : (bytes : List ℕ) → KeepsRows bytes keeping.base keeping.was → KeepsBehind keeping 0 bytes
  none_saved bytes keeps = subst (λ n. KeepsRows bytes n keeping.was) (omega arith) keeps

  pub some_saved : (bytes : List ℕ) → KeepsRows bytes keeping.base keeping.was → KeepsSome keeping bytes
  some_saved bytes keeps = record { count = 0; within = omega arith; keeps = none_saved bytes keeps }

  pub begun_saving : (run : Run) → LeavesOnly (λ bytes. KeepsRows bytes keeping.base keeping.was) run.now → IsSavedTo 0 run run
  begun_saving run only = record {
    any_moment = no_call (KeepsSome keeping) run (λ left may. some_saved left (only left may));
    now = λ left may. none_saved left (only left may);
  }

  -- the save after the next turn
  module _ (saves sequence : ℕ) (is_next : sequence ≡ keeping.base + saves) (within : suc saves ≤ length keeping.turns)
      (old mid : Run) (rows : List Row) (rows_are : rows ≡ rows_of keeping.config (take (suc saves) keeping.turns))
      (is : IsSavedTo saves old mid) where
    abbrev Either : List ℕ → Type 0
    Either = KeepsRowsOr sequence (rows_behind keeping saves) (sequence + 1) rows

    -- what stands there before it
    pub stands_before : KeepsRows mid.now.contents sequence (rows_behind keeping saves)
    stands_before = rw is_next (is.now mid.now.contents (is_left mid.now))

    next_saved : (bytes : List ℕ) → KeepsRows bytes (sequence + 1) rows → KeepsBehind keeping (suc saves) bytes
    next_saved bytes keeps = subst (λ n. KeepsRows bytes n (rows_behind keeping (suc saves))) (omega (arith, is_next)) (rw rows_are at keeps)

    pub save_passes : (new : Run) → LeavesSince mid new Either → LeavesSince old new (KeepsSome keeping)
    save_passes new since = goes_on_with _ old mid new is.any_moment (weaker Either (KeepsSome keeping) mid new (λ left either. elim either [
      | inl same ↦ record { count = saves; within = omega (arith, within); keeps = rw is_next at same }
      | inr next ↦ record { count = suc saves; within = within; keeps = next_saved left next }
    ]) since)

    pub save_fails : (new : Run) → LeavesSince mid new Either → LeavesOnly (KeepsOneOf keeping saves) new.now
    save_fails new since left may = elim (since.now left may) [ inl same ↦ inl (rw is_next at same) | inr next ↦ inr (next_saved left next) ]

    pub one_more_saved : (new : Run) → LeavesSince mid new Either → LeavesOnly (λ left. KeepsRows left (sequence + 1) rows) new.now
        → IsSavedTo (suc saves) old new
    one_more_saved new since saved = record { any_moment = save_passes new since; now = λ left may. next_saved left (saved left may) }
