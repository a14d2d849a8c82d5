-- A turn that is added to a history, entry by entry.
use Rattle.filter_chain.proofs.Names.{◌≡◌, ℕ, ◌+◌, List, [], ◌∷◌, ◌++◌, refl, ap, arith, Entry, Room, Turn, extended, room_after, with_entry}

-- an entry goes to the last turn
pub with_entry_last : (turns : List Turn) (turn : Turn) (entry : Entry (List ℕ))
    → with_entry (turns ++ turn ∷ []) entry ≡ turns ++ extended turn entry ∷ []
with_entry_last [] turn entry = refl
with_entry_last (first ∷ []) turn entry = refl
with_entry_last (first ∷ next ∷ turns) turn entry = ap (λ ts. first ∷ ts) (with_entry_last (next ∷ turns) turn entry)

-- what is left of the room, after another entry
pub room_more : (room : Room) (n bytes own : ℕ) → room_after (room_after room 1 n bytes) 0 1 own ≡ room_after room 1 (n + 1) (bytes + own)
room_more room n bytes own = grind arith
