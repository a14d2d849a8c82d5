-- A context data buffer as plain data, and which buffers the ring of a class carries.
use Rattle.std.specs.Prelude.{◌≡◌, ℕ, ◌≤◌, List, [], length, take, vec_capacity}
use Rattle.permit_ring.specs.declared.answer.Look.{Look}
use Rattle.buffer_classes.specs.declared.buffer.CtxBuf.TheInside.{Inside}
use Rattle.buffer_classes.specs.declared.class.ClassTerms.{ClassTerms}

-- a buffer: the place of its class, the claim that got it, how many bytes it can hold, and those that it holds
pub record Buffer : Type 0 where
  pub class : ℕ
  pub claim : ℕ
  pub size : ℕ
  pub bytes : List ℕ

-- the buffer that the fields hold
abbrev pub buffer_of : Inside → Buffer
buffer_of b = record { class = b.held.value.class; claim = b.held.value.claim; size = b.held.value.size; bytes = take b.held.value.len b.held.value.room.items }

-- it has as many bytes as it can hold, in room for just these, and holds no more
abbrev pub HasItsRoom : Inside → Type 0
HasItsRoom b = (length b.held.value.room.items ≡ b.held.value.size) × (vec_capacity b.held.value.room ≡ b.held.value.size)
    × (b.held.value.len ≤ b.held.value.size)

-- an empty buffer of a class, which nobody has claimed yet
abbrev pub unused : ℕ → ℕ → Buffer
unused class size = record { class = class; claim = 0; size = size; bytes = [] }

-- the buffer with these bytes
abbrev pub filled_with : List ℕ → Buffer → Buffer
filled_with bytes b = record b { bytes = bytes }

-- the buffer is one of the class of these terms
pub record IsBufferOf (terms : ClassTerms) (b : Buffer) : Type 0 where
  pub class_is : b.class ≡ terms.class
  pub size_is : b.size ≡ terms.size

-- a claim of a buffer finishes with nothing
abbrev pub no_note : Unit {0} → Unit {0}
no_note finished = tt

-- which is always admitted
abbrev pub admits_all : ClassTerms → Unit {0} → Type 0
admits_all terms note = Unit {0}

-- a look that found no buffer free, while so many had been claimed
abbrev pub found_full : ℕ → Look
found_full claimed = record { claimed = claimed; free = 0 }
