-- Reading, one step after another.
use Rattle.cmd_files.proofs.Names.{Err, Files, IsErrAnd, IsTrue, List, Ok, Result, SameFiles, Shelved, arith, inl, refl, sym, ℕ, ◌≡◌, ◌⊎◌}
use Rattle.std.specs.Borrow.{Bor}
use Rattle.cmd_files.proofs.ExitLemmas.{left_with}
use Rattle.cmd_files.specs.{Stop, CannotRead, plain_stop}
use Rattle.cmd_files.specs.Reading.{Comes, Judges, Reading, Reads, gives, reads, over, seen_as, ◌>>=◌}

-- ---- where reading comes to

-- what a whole comes to after a first part
comes_on : {A B : Type 0} (first : Reading A) (next : A → Reading B) (end : Result A (Stop (List ℕ))) (answer : Result B (Stop (List ℕ)))
    (old : Shelved) → Comes first end old → ((x : A) → end ≡ Ok x → Comes (next x) answer old)
    → ((reason : Stop (List ℕ)) → end ≡ Err reason → answer ≡ Err reason) → Comes (first >>= next) answer old
comes_on (reads limit name go) next end answer old comes ok err =
    grind (arith, comes, err, λ (bytes : List ℕ) (c : Comes (go bytes) end old). comes_on (go bytes) next end answer old c ok err)
comes_on other next end answer old comes ok err = grind (arith, comes, ok, err)

-- where the files are as they were before other reads
comes_before : {A : Type 0} (reading : Reading A) (answer : Result A (Stop (List ℕ))) (old mid : Shelved) → mid.tells ≡ old.tells
    → (IsTrue old.tells → SameFiles old.files mid.files) → Comes reading answer mid → Comes reading answer old
comes_before (reads limit name go) answer old mid tells same comes =
    grind (arith, comes, tells, same, λ (bytes : List ℕ). comes_before (go bytes) answer old mid tells same)
comes_before other answer old mid tells same comes = comes

-- over files that are told it comes to what they give, unless a read fails
pub comes_over : {A : Type 0} (reading : Reading A) (answer : Result A (Stop (List ℕ))) (old : Shelved) → IsTrue old.tells
    → Comes reading answer old → (over reading old.files ≡ answer) ⊎ ((name : List ℕ) × (answer ≡ Err (CannotRead name)))
comes_over (reads limit name go) answer old told comes = grind (arith, told, comes, λ (bytes : List ℕ). comes_over (go bytes) answer old told)
comes_over other answer old told comes = inl (sym comes)

-- what a call found that reads
pub read_over : {A : Type 0} (reading : Reading A) (x : A) (old new : Shelved) → Reads reading (Ok x) old new → IsTrue old.tells
    → over reading old.files ≡ Ok x
read_over reading x old new did told = grind (arith, comes_over reading (Ok x) old told did.ends.1)

-- over files of which a first part gives this, all gives what the rest gives after it
pub over_then : {A B : Type 0} (first : Reading A) (next : A → Reading B) (x : A) (files : Files) → over first files ≡ Ok x
    → over (first >>= next) files ≡ over (next x) files
over_then (reads limit name go) next x files is = grind (arith, is, λ (bytes : List ℕ). over_then (go bytes) next x files)
over_then other next x files is = grind (arith, is)

-- where all gave something, so did the first part, and the rest after it
pub over_parts : {A B : Type 0} (first : Reading A) (next : A → Reading B) (y : B) (files : Files) → over (first >>= next) files ≡ Ok y
    → (x : A) × (over first files ≡ Ok x) × (over (next x) files ≡ Ok y)
over_parts (reads limit name go) next y files is = grind (arith, is, λ (bytes : List ℕ). over_parts (go bytes) next y files)
over_parts other next y files is = grind (arith, is)

-- ---- what a call does that reads

-- it judged what was read
pub judged : {A : Type 0} (found : Reading A) (answer : Result A (Stop (List ℕ))) (old : Shelved) → Judges found answer → Reads found answer old old
judged found answer old is = grind (arith, is)

-- nothing
pub read_none : {A : Type 0} (x : A) (old : Shelved) → Reads (gives x) (Ok x) old old
read_none x old = judged (gives x) (Ok x) old refl

-- its first part stopped
pub stops_early : {A B : Type 0} (first : Reading A) (next : A → Reading B) (reason : Stop (List ℕ)) (old new : Shelved)
    → Reads first (Err reason) old new → Reads (first >>= next) (Err reason) old new
stops_early first next reason old new did = grind (arith, did, comes_on first next (Err reason) (Err reason) old)

-- it went on after its first part
pub goes_on : {A B : Type 0} (first : Reading A) (next : A → Reading B) (x : A) (old mid new : Shelved) → Reads first (Ok x) old mid
    → (answer : Result B (Stop (List ℕ))) → Reads (next x) answer mid new → Reads (first >>= next) answer old new
goes_on first next x old mid new did answer then =
    let before = comes_before (next x) answer old mid did.tells did.same in
    grind (arith, did, then, comes_on first next (Ok x) answer old did.ends.1, before)

-- an exit with this reason has what this reason has
pub left_reading : {A X : Type 0} (reading : Reading A) (view : X → A) (answer : Result X (Stop (Bor (List ℕ)))) (reason : Stop (Bor (List ℕ)))
    (old new : Shelved) → IsErrAnd answer (λ y. y ≡ reason) → Reads reading (Err (plain_stop reason)) old new
    → Reads reading (seen_as view answer) old new
left_reading reading view answer reason old new = left_with (λ a. Reads reading (seen_as view a) old new) answer reason
