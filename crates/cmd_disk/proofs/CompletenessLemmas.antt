-- How a run over a disk ends that has what it needs, and in which no call fails.
use Rattle.cmd_disk.proofs.Names.{CannotRead, CannotWrite, Damaged, Deserves, EndsAs, Err, HasDiskCause, HasKept, Heard, IsTrue, List, NoMemory, Ok, OnDisk, Puts, Refusal, Refused, Result, Shelved, Shown, Stop, TellsEnd, WornAfter, answer_status, answer_text, arith, bytes_of, inl, inr, kept_slot, refl, subst, ℕ, ◌+◌, ◌^◌, ◌≡◌, ◌⊎◌, Command, MayStopOnDisk}
use Rattle.cmd_disk.specs.Completeness.{NoneFailed}
use Rattle.cmd_disk.proofs.EndLemmas.{one_sequence}

-- what holds of the end, and where memory was wanted, holds of the answer
pub told_of : (P : Result (List ℕ) (Stop (List ℕ)) → Type 0) → P (Err NoMemory) → (end answer : Result (List ℕ) (Stop (List ℕ)))
    → TellsEnd end answer → P end → P answer
told_of P wanting (Ok said) answer same holds = rw same holds
told_of P wanting (Err reason) answer (inl same) holds = rw same holds
told_of P wanting (Err reason) answer (inr wanted) holds = rw wanted wanting

module _ {D : Type 0} (shows : D → Shown) (status : ℕ) (old new : Shelved) (before after : Heard) (disk left : D)
    (told : IsTrue old.tells) (shown : IsTrue (shows disk).tells) (kept : HasKept (bytes_of (shows disk)))
    (none : NoneFailed old new before after (shows disk) (shows left)) where
  -- a text was put, or memory was refused to it
  was_put : (wanted : ℕ) (text : List ℕ) → Puts text wanted status before after → (status ≡ wanted) ⊎ (status ≡ 8)
  was_put wanted text puts = grind (arith, puts.is, puts.cause, none.by_sink)

  -- where the files serve, all was done, or memory was wanted, or the last sequence was used
  pub answered : {R : Type 0} (command : Command) (answer : Result (List ℕ) (Stop (List ℕ)))
      → ((refusal : Refusal (List ℕ)) → Deserves command old.files refusal → ⊥) → EndsAs command answer old new
      → Puts (answer_text answer) (answer_status answer) status before after → HasDiskCause shows disk left answer
      → (status ≡ 0 → R) → (status ≡ 8 → R)
      → ((saves : ℕ) → answer ≡ Err (OnDisk (WornAfter saves)) → MayStopOnDisk command (WornAfter saves) → status ≡ 15
      → kept.sequence + saves ≡ 2 ^ 62 → R) → R
  answered command (Ok said) serves ends puts cause done wanting worn = elim (was_put 0 said puts) [ inl is ↦ done is | inr is ↦ wanting is ]
  answered command (Err (CannotRead name)) serves ends puts cause done wanting worn = absurd (none.by_shelf ends.fails.rose)
  answered command (Err (Refused refusal)) serves ends puts cause done wanting worn = absurd (serves refusal (ends.deserved told))
  answered command (Err (OnDisk (Damaged slot))) serves ends puts cause done wanting worn =
      absurd ((cause shown).0.none kept.sequence kept.rows kept.keeps)
  answered command (Err (OnDisk (WornAfter saves))) serves ends puts cause done wanting worn =
      let was = cause shown in
      let same = one_sequence (kept_slot (bytes_of (shows disk))) _ _ _ _ was.kept.keeps kept.keeps in
      elim (was_put 15 _ puts) [ inl is ↦ worn saves refl ends.may is (subst (λ n. n + saves ≡ 2 ^ 62) same was.last) | inr is ↦ wanting is ]
  answered command (Err (OnDisk stop)) serves ends puts cause done wanting worn = absurd (none.by_disk cause)
  answered command (Err CannotWrite) serves ends puts cause done wanting worn =
      elim ends.fails.fails [ inl creation ↦ absurd (none.by_shelf creation.rose) | inr appending ↦ absurd (none.by_shelf appending.rose) ]
  answered command (Err NoMemory) serves ends puts cause done wanting worn = elim (was_put 8 _ puts) [ inl is ↦ wanting is | inr is ↦ wanting is ]
