-- Sources, each of an instance of its own.
use Rattle.ids_reporter.proofs.Names.{◌≡◌, ℕ, ◌+◌, ◌≤◌, ◌⊎◌, List, [], ◌∷◌, ◌++◌, arith, MessageParts, AreApart, Sources, instance_of, source_at, common_steps}
use Rattle.ids_reporter.specs.declared.index.Instance.TheVariants.{One}
use Rattle.ids_reporter.proofs.RunLemmas.{apart_more}

-- a source is one of the old ones, or the last
source_more : (sources : Sources) (messages : List MessageParts) (s : ℕ)
    → (source_at sources s ≡ source_at (sources ++ messages ∷ []) s) ⊎ (messages ≡ source_at (sources ++ messages ∷ []) s)
source_more sources messages s = grind (arith, common_steps)

-- one more source of the next instance
pub known_more : (sources : Sources) (messages : List MessageParts) (i : ℕ)
    → ((s j : ℕ) → instance_of (source_at sources s) ≡ One j → j ≤ i) → instance_of messages ≡ One (i + 1)
    → (s j : ℕ) → instance_of (source_at (sources ++ messages ∷ []) s) ≡ One j → j ≤ i + 1
known_more sources messages i known one s j is = grind (arith, known s j, one, is, source_more sources messages s)

pub apart_next : (sources : Sources) (messages : List MessageParts) (i : ℕ) → AreApart sources
    → ((s j : ℕ) → instance_of (source_at sources s) ≡ One j → j ≤ i) → instance_of messages ≡ One (i + 1)
    → AreApart (sources ++ messages ∷ [])
apart_next sources messages i apart known one =
    apart_more sources messages apart (λ mixed. grind (arith, one, mixed)) (λ s j old new. grind (arith, known s j old, one, new))
