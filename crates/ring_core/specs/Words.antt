-- The permit word of a ring: the claims and the free positions, as one number of 64 bits.
use Rattle.std.specs.Prelude.{◌≡◌, ◌+◌, ◌-◌, ◌*◌, ◌/◌, ◌%◌, ◌^◌, ◌<◌, ◌≤◌, ◌⊎◌, if◌then◌else◌}
use Rattle.ring_core.specs.Names.{ℕ, nat_le, PermitWord}

-- all claim steps that the word counts, the vain ones since the last offer among them
abbrev pub tries_of : PermitWord → ℕ
tries_of word = word.claimed + word.over

-- the word's low part: the free positions above the number of seats, or the vain claims below it
abbrev pub field_of : ℕ → PermitWord → ℕ
field_of seats word = word.free + seats - word.over

-- the word as one number: the tries above 16 bits, and the field in them
abbrev pub packed : ℕ → PermitWord → ℕ
packed seats word = tries_of word * 2 ^ 16 + field_of seats word

-- the word that so many tries and this field stand for
abbrev pub word_of : ℕ → ℕ → ℕ → PermitWord
word_of seats tries field =
    if nat_le seats field
    then record { claimed = tries; free = field - seats; over = 0 }
    else record { claimed = tries - (seats - field); free = 0; over = seats - field }

-- the word that a number stands for
abbrev pub unpacked : ℕ → ℕ → PermitWord
unpacked seats number = word_of seats (number / 2 ^ 16) (number % 2 ^ 16)

-- no position is free, or no claim was in vain since the last offer
abbrev pub FreeOrOver : PermitWord → Type 0
FreeOrOver word = (word.free ≡ 0) ⊎ (word.over ≡ 0)

-- the word fits into 64 bits and can be told from its number
pub record IsPackable (seats : ℕ) (word : PermitWord) : Type 0 where
  pub tries_fit : tries_of word < 2 ^ 48
  pub free_fits : word.free + seats < 2 ^ 16
  pub over_fits : word.over ≤ seats
  pub either : FreeOrOver word

-- the number has at least as many tries as its field shows vain claims
abbrev pub IsReadable : ℕ → ℕ → Type 0
IsReadable seats number = seats ≤ number / 2 ^ 16 + number % 2 ^ 16
