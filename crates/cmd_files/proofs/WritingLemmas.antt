-- A file that is written piece by piece.
use Rattle.cmd_files.proofs.Names.{Adds, Append, AppendMakes, AreUntouched, CanWrite, Changes, Cuts, Err, Files, IsErrAnd, IsNoneOf, IsTrue, List, Ok, Output, Result, SameBut, Shelved, Some, StandUpTo, WriteCause, WriteFault, Writes, [], arith, drop, length, length-take, map, names_of, output_of, take, take-take, ℕ, ⊤, ◌++◌, ◌+◌, ◌-◌, ◌∷◌, ◌≡◌, ◌≤◌}
use Rattle.std.proofs.Math.Seq.{take-add, take-length}
use Rattle.cmd_files.specs.declared.outputs.NewFile.{NewFile}
use Rattle.std.proofs.lemmas.List.Elements.{Contains-append_right}

-- the next piece was appended
pub piece_appended : (output : Output) (start end : ℕ) (old new : Shelved) (ordered : start ≤ end) (tells : new.tells ≡ old.tells)
    (answer : Result ⊤ WriteFault)
    → (IsTrue old.tells → AppendMakes old.files new.files output.name (take (end - start) (drop start output.bytes)) answer)
    → WriteCause Append old.faults new.faults output.name answer → Adds output start end answer old new
piece_appended output start end old new ordered tells answer makes cause =
    let piece = take (end - start) (drop start output.bytes) in
    let part : (count : ℕ) → count ≤ length piece → take (start + count) output.bytes ≡ take start output.bytes ++ take count piece =
    λ count within. grind (arith, within, take-add start count output.bytes, take-take, length-take) in
    grind (arith, tells, makes, cause, take-add start (end - start) output.bytes, part)

-- ---- one file

-- it was made, and got its pieces
pub file_written : (output : Output) (old mid new : Shelved) → mid.tells ≡ old.tells
    → (IsTrue old.tells → Changes old.files mid.files output.name (Some [])) → mid.faults ≡ old.faults → (answer : Result ⊤ WriteFault)
    → Adds output 0 (length output.bytes) answer mid new → Writes (output ∷ []) answer old new
file_written output old mid new tells made faults answer adds = grind (arith, adds, made, tells, faults, take-length output.bytes)

-- ---- files one after the other

-- once the files that are left are written, all are
pub record Left (files left : List NewFile) (old now : Shelved) : Type 0 where
  pub can : CanWrite left
  pub rest : (answer : Result ⊤ WriteFault) (new : Shelved) → Writes (map output_of left) answer now new → Writes (map output_of files) answer old new

-- those that have other names stay as they were
since : (name : List ℕ) (outputs : List Output) (old mid new : Files) → IsNoneOf (names_of outputs) name → SameBut (name ∷ []) old mid
    → AreUntouched outputs old mid × (AreUntouched outputs mid new → AreUntouched outputs old new) × (StandUpTo outputs mid new → StandUpTo outputs old new)
since name [] old mid new none same = (tt, λ before. tt, λ stands. tt)
since name (output ∷ outputs) old mid new none same = grind (arith, none, same output.name, since name outputs old mid new none.1 same)

module _ (files left later : List NewFile) (next : NewFile) (is : left ≡ next ∷ later) (old mid now : Shelved) (was : Left files left old mid) where
  -- the next one was written
  pub wrote_next : Writes (output_of next ∷ []) (Ok tt) mid now → Left files later old now
  wrote_next first =
      let can = rw is at was.can in
      record {
        can = grind (arith, can);
        rest = λ answer new then.
            let stands = since next.name.now (map output_of later) mid.files now.files new.files can.apart.0 in
            was.rest answer new (rw is (grind (arith, first, then, stands, Contains-append_right (next.name.now ∷ []) (names_of (map output_of later)))));
      }

  -- its write failed, so those after it were not begun
  pub failed_next : (fault : WriteFault) → Writes (output_of next ∷ []) (Err fault) mid now → (answer : Result ⊤ WriteFault)
      → IsErrAnd answer (λ y. y ≡ fault) → Writes (map output_of files) answer old now
  failed_next fault first answer left =
      let can = rw is at was.can in
      let stands = since next.name.now (map output_of later) mid.files now.files now.files can.apart.0 in
      was.rest answer now (rw is (grind (arith, first, left, stands, take-length next.bytes.now)))

-- the bytes went on to a next cut
pub cuts_go_on : (start : ℕ) (cuts : List ℕ) (end more : ℕ) → Cuts start cuts end → end ≤ more
    → Cuts start (cuts ++ more ∷ []) more
cuts_go_on start [] end more all grows = grind (arith, all, grows)
cuts_go_on start (cut ∷ cuts) end more all grows = grind (arith, all, grows, cuts_go_on cut cuts end more)
