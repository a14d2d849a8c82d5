-- Texts that are appended piece by piece.
use Rattle.journal.proofs.Names.{◌≡◌, ℕ, ◌+◌, ◌<◌, ◌≤◌, List, [], ◌∷◌, ◌++◌, length, take, sym, ap, ◌∙◌, arith, append_assoc, Ok, Appends, get_or, append-nil, length-append, length-take-le, take-append-drop, take_more, Err, Result, Vec, drop, vec_capacity, one_more}
use Rattle.std.specs.Result.{IsErrAnd}
use Rattle.ids_types.specs.declared.memory.NoMemory.{NoMemory}

-- the text of the first of these has been appended
pub record Appended {A Z : Type 0} (text : List A → List ℕ) (old now : Vec ℕ Z) (xs : List A) (i : ℕ) : Type 0 where
  pub items : now.items ≡ old.items ++ text (take i xs)
  pub capacity : vec_capacity old ≤ vec_capacity now

module _ {A : Type 0} (text : List A → List ℕ) (piece : ℕ → A → List ℕ) (adds : (front : List A) (x : A) → text (front ++ x ∷ []) ≡ text front ++ piece (length front) x) where
  -- a text of more is not shorter
  grows : (front rest : List A) → length (text front) ≤ length (text (front ++ rest))
  grows front [] = rw append-nil (omega arith)
  grows front (x ∷ rest) =
      let all = ap (λ xs. length (text xs)) (append_assoc front (x ∷ []) rest) in
      omega (arith, all, grows (front ++ x ∷ []) rest, ap length (adds front x), length-append (text front) (piece (length front) x))

  pub one_appended : {Z : Type 0} (old now next : Vec ℕ Z) (xs : List A) (i : ℕ) (x d : A) → i < length xs → x ≡ get_or xs i d → Appended text old now xs i
      → Appends now next (Ok tt) (piece i x) → Appended text old next xs (i + 1)
  one_appended old now next xs i x d within is was did = record {
    items = one_more text piece adds old.items now.items next.items xs i x d within is was.items did.ok;
    capacity = omega (arith, was.capacity, did.capacity);
  }

  pub one_refused : {Z : Type 0} (old now next : Vec ℕ Z) (xs : List A) (i : ℕ) (x d : A) (fault : NoMemory) → i < length xs → x ≡ get_or xs i d → Appended text old now xs i
      → Appends now next (Err fault) (piece i x) → Appends old next (Err fault) (text xs)
  one_refused old now next xs i x d fault within is was did =
      let front = take i xs in
      let first : text (take (i + 1) xs) ≡ text front ++ piece i x =
      ap text (take_more xs i d within ∙ ap (λ y. front ++ y ∷ []) (sym is)) ∙ adds front x ∙ ap (λ k. text front ++ piece k x) (length-take-le i xs (omega arith)) in
      let grown = grows (take (i + 1) xs) (drop (i + 1) xs) in
      let whole = ap (λ ys. length (text ys)) (take-append-drop (i + 1) xs) in
      let more : length (text front) + length (piece i x) ≤ length (text xs) = omega (arith, whole, grown, ap length first, length-append (text front) (piece i x)) in
      record {
        ok = tt;
        full = grind (arith, did.full, was.items, was.capacity, more, length-append);
        capacity = omega (arith, was.capacity, did.capacity);
      }

-- a refusal that is handed on says the same
pub handed_on : {Z : Type 0} (old next : Vec ℕ Z) (text : List ℕ) (fault : NoMemory) (r : Result (Unit {0}) NoMemory) (P : NoMemory → Type 0) → IsErrAnd r P
    → Appends old next (Err fault) text → Appends old next r text
handed_on old next text fault (Ok done) P is did = absurd is
handed_on old next text fault (Err other) P is did = record { ok = tt; full = did.full; capacity = did.capacity }
