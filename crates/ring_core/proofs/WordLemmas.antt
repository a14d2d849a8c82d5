-- The permit word as a number: what is packed can be told, and a claim adds one number to it.
use Rattle.ring_core.proofs.Names.{◌≡◌, ℕ, ◌+◌, ◌<◌, ◌≢◌, ◌^◌, true, false, sym, ◌∙◌, ap, arith, common_steps, PermitWord, same_word, claimed_from, tries_of, field_of, packed, unpacked, FreeOrOver, IsPackable}
use Rattle.std.proofs.lemmas.Nat.{div-mul-add, mod-mul-add}

-- words that are equal in each number are one word
pub one_word : (a b : PermitWord) → a.claimed ≡ b.claimed → a.free ≡ b.free → a.over ≡ b.over → same_word a b ≡ true
one_word a b c f o = grind (arith, common_steps)

-- unpacking gives the word that was packed
pub unpacked-packed : (seats : ℕ) (word : PermitWord) → seats < 256 → IsPackable seats word → unpacked seats (packed seats word) ≡ word
unpacked-packed seats word few fits =
    let field : field_of seats word < 2 ^ 16 = omega arith in
    let tries = div-mul-add (tries_of word) (2 ^ 16) (field_of seats word) field in
    grind (arith, common_steps, tries, mod-mul-add (tries_of word) (2 ^ 16) (field_of seats word) field)

-- two words that pack to one number are one
pub packed_apart : (seats : ℕ) (a b : PermitWord) → seats < 256 → IsPackable seats a → IsPackable seats b
    → packed seats a ≡ packed seats b → a ≡ b
packed_apart seats a b few fa fb e = sym (unpacked-packed seats a few fa) ∙ ap (unpacked seats) e ∙ unpacked-packed seats b few fb

-- a claim adds 2^16 and takes 1: that is one number, whatever the word shows
pub packed-claimed : (seats : ℕ) (word : PermitWord) → FreeOrOver word → 0 < field_of seats word
    → packed seats (claimed_from word) ≡ packed seats word + 65535
packed-claimed seats word either some = grind arith

-- two words that are not one differ in a number
pub other_word : (a b : PermitWord) → a ≢ b → same_word a b ≡ false
other_word a b other = grind (arith, common_steps)
