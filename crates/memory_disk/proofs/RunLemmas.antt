-- What calls of a disk leave, at each moment of a run.
use Rattle.std.proofs.Common.{◌≡◌, ℕ, ◌+◌, ◌≤◌, List, [], ◌∷◌, ◌++◌, length, Ok, Err, Result, refl, sym, subst, ◌∙◌, inl, inr, arith, rules, append_assoc, take, drop, length-append, length-drop}
use Rattle.std.proofs.lemmas.Grind.{same_number_lists}
use Rattle.std.proofs.lemmas.Bool.{cases_lt}
use Rattle.std.proofs.lemmas.List.{append-nil, places, nil_from_length, take_all, take-append-le, drop-append-le}
use Rattle.std.proofs.lemmas.List.Elements.{All-append, All-from_recursion, All-weaker, recursion_from_All}
use Rattle.std.specs.Prelude.{⊤}
use Rattle.memory_disk.specs.Disks.{State, Run, IsWritten, ChangesIn, MayBeLeft, LeavesOnly, LeavesSince, Tears, Writes, Syncs, Reads, FailsWith, after, overwritten, span_of, synced, unsynced}
use Rattle.memory_disk.specs.declared.disk.DiskFailed.{DiskFailed}
use Rattle.memory_disk.specs.declared.disk.Span.{Span}
use Rattle.memory_disk.specs.declared.recording.Call.{Call}
use Rattle.memory_disk.specs.Recorded.{piece_len, pieces_len, replay, state_after}

-- ---- runs, one after the other

module _ (P : List ℕ → Type 0) where
  -- no call was made
  pub no_call : (run : Run) → LeavesOnly P run.now → LeavesSince run run P
  no_call run now = record { passed = []; goes_on = sym (append-nil run.past); each = tt; now = now }

  -- one call was made
  one_call : (old : Run) (state : State) → LeavesOnly P old.now → LeavesOnly P state → LeavesSince old (after old state) P
  one_call old state before now = record { passed = old.now ∷ []; goes_on = refl; each = (before, tt); now = now }

  -- a call left all as it was
  same_call : (old new : Run) → FailsWith old new old.now → LeavesOnly P old.now → LeavesSince old new P
  same_call old new (inl same) before = rw same (no_call old before)
  same_call old new (inr left) before = rw left (one_call old old.now before before)

  pub goes_on_with : (old mid new : Run) → LeavesSince old mid P → LeavesSince mid new P → LeavesSince old new P
  goes_on_with old mid new first second = record {
    passed = first.passed ++ second.passed;
    goes_on = rw (second.goes_on, first.goes_on) (append_assoc old.past first.passed second.passed);
    each = recursion_from_All (LeavesOnly P) (first.passed ++ second.passed) (All-append (LeavesOnly P) first.passed second.passed
        (All-from_recursion (LeavesOnly P) first.passed first.each) (All-from_recursion (LeavesOnly P) second.passed second.each));
    now = second.now;
  }

  pub weaker : (Q : List ℕ → Type 0) (old new : Run) → ((left : List ℕ) → P left → Q left) → LeavesSince old new P → LeavesSince old new Q
  weaker Q old new to since = record {
    passed = since.passed;
    goes_on = since.goes_on;
    each = recursion_from_All (LeavesOnly Q) since.passed (All-weaker (LeavesOnly P) (LeavesOnly Q)
        (λ state only left may. to left (only left may)) since.passed (All-from_recursion (LeavesOnly P) since.passed since.each));
    now = λ left may. to left (since.now left may);
  }

-- ---- what one state may leave

-- what is there may be left
pub is_left : (state : State) → MayBeLeft state state.contents
is_left state = record { size = refl; others = λ i outside. refl }

-- where all is synced, nothing else
pub only_contents : (state : State) → state.written ≡ [] → (left : List ℕ) → MayBeLeft state left → left ≡ state.contents
only_contents state none left may =
    same_number_lists left state.contents may.size (λ i low. may.others i (λ inside. subst (λ spans. IsWritten spans i) none inside))

pub settled_leaves : (P : List ℕ → Type 0) (state : State) → state.written ≡ [] → P state.contents → LeavesOnly P state
settled_leaves P state none holds left may = subst P (sym (only_contents state none left may)) holds

-- ---- calls

pub overwritten_changes : (at : ℕ) (piece bytes : List ℕ) → at + length piece ≤ length bytes
    → ChangesIn (span_of at piece) bytes (overwritten at piece bytes)
overwritten_changes at piece bytes fits = record {
  size = search (rules, places);
  others = λ i outside. grind (arith, places, cases_lt i at, cases_lt i (at + length piece));
}

-- what a call left of other bytes in one range alone
tears_leave : (old new : Run) (span : Span) → old.now.written ≡ [] → Tears old new span → LeavesSince old new (ChangesIn span old.now.contents)
tears_leave old new span none tears =
    rw tears.leaves (one_call _ old (unsynced old.now span tears.torn)
    (settled_leaves _ old.now none (record { size = refl; others = λ i outside. refl })) (λ left may. record {
      size = may.size ∙ tears.within.size;
      others = λ i outside. grind (arith, rw none at may.others i, tears.within.others i outside);
    }))

-- a write leaves what differs in its range alone
pub write_leaves : (old new : Run) (at : ℕ) (piece : List ℕ) (result : Result ⊤ DiskFailed) → old.now.written ≡ []
    → at + length piece ≤ length old.now.contents → Writes old new at piece result
    → LeavesSince old new (ChangesIn (span_of at piece) old.now.contents)
write_leaves old new at piece (Ok done) none fits is =
    tears_leave old new _ none (record { torn = _; within = overwritten_changes at piece old.now.contents fits; leaves = is })
write_leaves old new at piece (Err failed) none fits (inl same) =
    rw same (no_call _ old (settled_leaves _ old.now none (record { size = refl; others = λ i outside. refl })))
write_leaves old new at piece (Err failed) none fits (inr tears) = tears_leave old new _ none tears

-- a sync leaves nothing else than what might be left before it
pub sync_leaves : (P : List ℕ → Type 0) (old new : Run) (result : Result ⊤ DiskFailed) → LeavesOnly P old.now → Syncs old new result → LeavesSince old new P
sync_leaves P old new (Ok done) before syncs =
    rw syncs.0 (one_call P old (synced old.now.contents) before (settled_leaves P _ refl (before old.now.contents (is_left old.now))))
sync_leaves P old new (Err failed) before fails = same_call P old new fails before

-- so does a read
pub read_leaves : (P : List ℕ → Type 0) (old new : Run) (at : ℕ) (out : List ℕ) (result : Result ⊤ DiskFailed) → LeavesOnly P old.now
    → Reads old new at out result → LeavesSince old new P
read_leaves P old new at out (Ok done) before reads = same_call P old new (inr reads.0) before
read_leaves P old new at out (Err failed) before fails = same_call P old new fails before

-- ---- the run that a record of calls tells, with one more of them

-- a call more, with its piece after the others
pub replay_push : (run : Run) (calls : List Call) (pieces : List ℕ) (call : Call) (piece : List ℕ)
    → pieces_len calls ≡ length pieces → piece_len call ≡ length piece
    → replay run (calls ++ call ∷ []) (pieces ++ piece) ≡ after (replay run calls pieces) (state_after call (replay run calls pieces).now piece)
replay_push run [] pieces call piece none one = rw (nil_from_length pieces (sym none), take_all (piece_len call) piece (omega arith))
replay_push run (first ∷ calls) pieces call piece sum one =
    let n = piece_len first in
    let rest : pieces_len calls ≡ length (drop n pieces) = omega (arith, sum, length-drop n pieces) in
    rw (replay, take-append-le n pieces piece (omega arith), drop-append-le n pieces piece (omega arith))
    (replay_push (after run (state_after first run.now (take n pieces))) calls (drop n pieces) call piece rest one)

-- so long are their pieces
pub pieces_len_push : (calls : List Call) (call : Call) → pieces_len (calls ++ call ∷ []) ≡ pieces_len calls + piece_len call
pieces_len_push [] call = omega arith
pieces_len_push (first ∷ calls) call = omega (arith, pieces_len_push calls call)

pub ruleset one_more = (replay_push, pieces_len_push, length-append)
