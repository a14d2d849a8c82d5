-- Words and their bytes.
use Rattle.cmd_words.proofs.Names.{◌≡◌, Bool, List, [], ◌∷◌, ℕ, map, refl, ap, arith, ◌||◌, list_any, IsTrue, None, Option, Some, Command, are_read_by_clap, command_of, disk_of, gen_for, gen_of, replay_of, report_of}
use Rattle.gen_options.specs.{Wanted, words_give}

-- a test of mapped elements
pub any_of_mapped : {A B : Type 0} (p : B → Bool) (f : A → B) (xs : List A) → list_any p (map f xs) ≡ list_any (λ x. p (f x)) xs
any_of_mapped p f [] = refl
any_of_mapped p f (x ∷ xs) = ap (λ (b : Bool). p (f x) || b) (any_of_mapped p f xs)

-- ---- words that clap reads ask for no run of another call

abbrev pub AreAlone : Option Command → Type 0
AreAlone command = (replay_of command ≡ None) × (report_of command ≡ None) × (disk_of command ≡ None)

gen_alone : (gives : Option Wanted) → AreAlone (gen_for gives)
gen_alone None = (refl, refl, refl)
gen_alone (Some wanted) = (grind arith, grind arith, grind arith)

pub gen_none : (words : List (List ℕ)) → AreAlone (gen_of words)
gen_none words = gen_alone (words_give words)

by_clap : (words : List (List ℕ)) → IsTrue (are_read_by_clap words) → AreAlone (command_of words)
by_clap [] is = (refl, refl, refl)
by_clap (word ∷ names) is = rw is (gen_none (word ∷ names))

pub no_replay : (words : List (List ℕ)) → IsTrue (are_read_by_clap words) → replay_of (command_of words) ≡ None
no_replay words is = (by_clap words is).0

pub no_report : (words : List (List ℕ)) → IsTrue (are_read_by_clap words) → report_of (command_of words) ≡ None
no_report words is = (by_clap words is).1

pub no_disk : (words : List (List ℕ)) → IsTrue (are_read_by_clap words) → disk_of (command_of words) ≡ None
no_disk words is = (by_clap words is).2
