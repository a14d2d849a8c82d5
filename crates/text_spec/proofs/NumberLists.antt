-- Numbers in a list of words, one after another.
use Rattle.text_spec.proofs.Names.{◌≡◌, ◌∷◌, ◌++◌, ℕ, suc, List, [], refl, ap, append_assoc, Option, Some, None, option_map, numbers_in, a_number, first_as}
use Rattle.text_spec.proofs.FrontLemmas.{mapped_some}

-- numbers that were read, after these
abbrev pub with_front : List ℕ → Option (List ℕ) → Option (List ℕ)
with_front front read = option_map (λ ns. front ++ ns) read

-- one more number in front
pub front_more : (front : List ℕ) (n : ℕ) (read : Option (List ℕ)) → with_front (front ++ n ∷ []) read ≡ with_front front (option_map (λ ns. n ∷ ns) read)
front_more front n None = refl
front_more front n (Some ns) = ap Some (append_assoc front (n ∷ []) ns)

-- the numbers of pieces of which the first one was read
pub numbers_more : (k n : ℕ) (rest next : List (List ℕ)) → first_as a_number rest ≡ Some (n, next)
    → numbers_in (suc k) rest ≡ option_map (λ ns. n ∷ ns) (numbers_in k next)
numbers_more k n [] next h = cc h
numbers_more k n (piece ∷ pieces) next h =
    let read = mapped_some (λ x. (x, pieces)) (a_number.reading piece) (n, next) h in
    rw (read.1) (ap (λ (x : ℕ × List (List ℕ)). option_map (λ ns. x.0 ∷ ns) (numbers_in k x.1)) read.2)
