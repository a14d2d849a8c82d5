-- Sources that are read one after the other.
use Rattle.ids_reporter.proofs.Names.{◌≡◌, ◌≢◌, ℕ, ◌^◌, ◌≤◌, ◌⊎◌, List, [], ◌∷◌, ◌++◌, length, arith, MessageParts, One, Mixed, AreApart, AreSmall, Sources, instance_of, source_at, rules, common_steps}

-- a source is one of the old ones, or the last
source_more : (sources : Sources) (messages : List MessageParts) (s : ℕ)
    → (source_at sources s ≡ source_at (sources ++ messages ∷ []) s)
    ⊎ ((messages ≡ source_at (sources ++ messages ∷ []) s) × (s ≡ length sources))
source_more sources messages s = grind (arith, common_steps)

-- and with one more that has one instance, which none of them has
pub apart_more : (sources : Sources) (messages : List MessageParts) → AreApart sources → instance_of messages ≢ Mixed
    → ((s i : ℕ) → instance_of (source_at sources s) ≡ One i → instance_of messages ≡ One i → ⊥) → AreApart (sources ++ messages ∷ [])
apart_more sources messages apart pure new = search (rules, source_more)

-- and with a small one more
pub small_more : (sources : Sources) (messages : List MessageParts) → AreSmall sources → length messages ≤ 2 ^ 40
    → AreSmall (sources ++ messages ∷ [])
small_more sources messages small few = grind (arith, common_steps, source_more)
