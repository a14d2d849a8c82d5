-- How the files of a map change with the map, and how given files are found.
use Rattle.std.proofs.Common.{◌≡◌, ◌≢◌, ◌⊎◌, ◌++◌, ◌∷◌, [], ℕ, true, false, List, Some, Result, Ok, Err, is_ok, String, Vec, string_bytes, option_map, ap, if◌then◌else◌, arith}
use Rattle.std.specs.Str.{bytes_eq}
use Rattle.std.specs.BTreeMap.{BTreeMap, UpdatesBy, get_by_text}
use Rattle.std.specs.Cmp.Lexicographic.{slice_cmp}
use Rattle.std.specs.Ordering.{nat_cmp}
use Rattle.std.specs.String.{string_cmp}
use Rattle.std.specs.declared.alloc.Global.{Global}
use Rattle.std.proofs.lemmas.Bool.{cases_Bool, true≢false}
use Rattle.std.proofs.lemmas.List.{reverse-append}
use Rattle.std.proofs.lemmas.Map.Text.{btree_map_updates_text}
use Rattle.std.proofs.lemmas.Slice.Eq.{bytes_eq-Decides}
use Rattle.ids_outside.specs.Files.{Files, SameFiles, Changes}
use Rattle.ids_outside.specs.Bodies.{Given, given_files, files_in, Adds}
use Rattle.std.proofs.lemmas.Grind.{common_steps}

-- the test of two names tells whether they are one
names_cases : (name other : List ℕ) → ((bytes_eq name other ≡ true) × (name ≡ other)) ⊎ ((bytes_eq name other ≡ false) × (other ≢ name))
names_cases name other = grind (arith, common_steps, cases_Bool, bytes_eq-Decides, true≢false)

-- the map of a shelf in memory
abbrev pub Kept : Type 0
Kept = BTreeMap (String Global) (Vec ℕ Global)

-- the map was updated at this name
abbrev pub UpdatesName : Kept → Kept → List ℕ → Vec ℕ Global → Type 0
UpdatesName old new name bytes =
    UpdatesBy string_cmp (λ key. slice_cmp nat_cmp name (string_bytes key)) old new (Some bytes)

-- an update of the map at a name changes the file of that name, and no other
pub changes_from_updates : (name : List ℕ) (old new : Kept) (bytes : Vec ℕ Global)
    → UpdatesName old new name bytes → Changes (files_in old) (files_in new) name (Some bytes.items)
changes_from_updates name old new bytes updates = record {
  at = ap (option_map (λ v. v.items)) updates.1;
  others = λ other differ.
      grind (arith, names_cases name other, btree_map_updates_text {Y = Global} name old new (Some bytes) updates other);
}

-- bytes that grew by a piece are the change that an append makes, and others change no file
pub changes_from_growth : {E : Type 0} (r : Result (Unit {0}) E) (name piece : List ℕ)
    (old new : Kept) (before after : Vec ℕ Global)
    → get_by_text old name ≡ Some before → UpdatesName old new name after
    → after.items ≡ (if is_ok r then before.items ++ piece else before.items)
    → Adds (files_in old) (files_in new) name piece r
changes_from_growth (Ok _) name piece old new before after there updates grown =
    rw (there, ← grown) (changes_from_updates name old new after updates)
changes_from_growth (Err _) name piece old new before after there updates grown = λ other.
    grind (arith, names_cases name other, changes_from_updates name old new after updates)

-- where the files before were those given, one more is given and found
pub given_files_step : (before : List Given) (file : Given) (old new : Files)
    → SameFiles (given_files before) old
    → Changes old new (string_bytes file.0) (Some file.1.items)
    → SameFiles (given_files (before ++ file ∷ [])) new
given_files_step before file old new same changes name = grind (arith, common_steps, reverse-append, names_cases)
